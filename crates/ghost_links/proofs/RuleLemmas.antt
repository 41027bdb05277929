-- The sentences of the link rule, from its compact form.
use Rattle.std.proofs.Common.{◌≡◌, ◌≢◌, ◌↔◌, ℕ, suc, ◌+◌, ◌*◌, ◌/◌, ◌%◌, ◌<◌, ◌≤◌, ◌^◌, List, [], ◌∷◌, length, Some, None, Bool, true, false, not, cond, eqb, ◌&&◌, lt-ltb, ne_eqb, refl, sym, ap, ap₂, ◌∙◌, subst, ⊎_elim, arith, suc-mul}
use Rattle.std.specs.Prelude.{slice_index, slice_index_or}
use Rattle.std.specs.declared.option.Option.{Option}
use Rattle.std.proofs.lemmas.Nat.{div-mul-add, mod-mul-add}
use Rattle.std.proofs.Math.Nat.{div-add-mod', mul-le-mul_right}
use mathlib.Core.Option.{some}
use mathlib.Core.Logic.{dite}
use native.Mathlib.Decide.{ℕ_discrete}
use lib.ListN.{get_elem?}
use Rattle.ghost_links.specs.declared.links.PostAnswer.{PostAnswer}
use Rattle.ghost_links.specs.declared.links.PostAnswer.TheVariants.{Posted, NotYet as PostNotYet}
use Rattle.ghost_links.specs.declared.links.TakeAnswer.{TakeAnswer}
use Rattle.ghost_links.specs.declared.links.TakeAnswer.TheVariants.{Taken, NotYet as TakeNotYet}
use Rattle.ghost_links.specs.declared.view.End.{End}
use Rattle.ghost_links.specs.declared.view.View.{View}
use Rattle.ghost_links.specs.Layouts.{Layout, first_word, given_room, given_size, is_link, layout_of, packet_size, turn_count, turn_word}
use Rattle.ghost_links.specs.Scripts.{LinkScript, packet_of, script_over}
use Rattle.ghost_links.specs.Ends.{end_count, end_in, idle_end, is_end, occurrences, receiving_end, sending_end}
use Rattle.ghost_links.specs.Packets.{PacketWords}
use Rattle.ghost_links.specs.LinkRule.{HavePacket, IsInOneView, IsLinked, PutsPacket, TableState, total}
use Rattle.ghost_links.specs.Holdings.{Holding, Posts, Takes, after_load, after_steps, has_idle, last_of, last_word}
use Rattle.ghost_links.proofs.LayoutLemmas.{first_of_more, first_word_of, packets_of_link, ranks_of_link, room_of_layout}
use Rattle.ghost_links.proofs.SeatLemmas.{idle_end_of}
use Rattle.ghost_links.proofs.StageLemmas.{end_after_steps}
use Rattle.ghost_links.proofs.StepLemmas.{end_once}

pub one_script : (layout : Layout) (s : TableState) → IsLinked layout s → (i j : ℕ) (v w : View) → get_elem? s.views i ≡ some v
    → get_elem? s.views j ≡ some w → v.joined ≡ false → w.joined ≡ false → v.script ≡ w.script
one_script layout s r i j v w at_i at_j a b = (r.each i v at_i).script_is a ∙ sym ((r.each j w at_j).script_is b)

same_script : (layout : Layout) (s : TableState) (r : IsLinked layout s) (j : ℕ) (v : View) → get_elem? s.views j ≡ some v → v.joined ≡ false
    → r.script ≡ v.script
same_script layout s r j v here a = sym ((r.each j v here).script_is a)

pub few_packets : (layout : Layout) (s : TableState) → IsLinked layout s → (j link : ℕ) (v : View) → get_elem? s.views j ≡ some v → v.joined ≡ false
    → is_link layout.ranks link ≡ true → length (slice_index_or v.script link []) < 2 ^ 62
few_packets layout s r j link v here a is =
    subst (λ (t : LinkScript). length (slice_index_or t link []) < 2 ^ 62) (same_script layout s r j v here a) (r.script_fits.short link is)

pub packets_fit : (layout : Layout) (s : TableState) → IsLinked layout s → (j link n : ℕ) (v : View) (packet : List ℕ) → get_elem? s.views j ≡ some v
    → v.joined ≡ false → is_link layout.ranks link ≡ true → packet_of v.script link n ≡ Some packet → length packet ≤ packet_size layout link
packets_fit layout s r j link n v packet here a is p =
    let p' : packet_of r.script link n ≡ Some packet = ap (λ t. packet_of t link n) (same_script layout s r j v here a) ∙ p in
    let fits = r.script_fits.fits link n packet is p' in omega arith

-- a total that isn't 0 has a part that isn't
positive_part : (f : View → ℕ) (vs : List View) → 0 < total f vs → (j : ℕ) × (v : View) × (get_elem? vs j ≡ some v) × (0 < f v)
positive_part f [] h = absurd (omega arith)
positive_part f (v ∷ vs) h = dite (ℕ_discrete (f v) 0)
    (λ z. let r = positive_part f vs (omega arith) in (suc r.0, r.1, r.2, r.3))
    (λ ne. (0, v, refl, omega arith))

end_count_at_most : (o : Option End) → end_count o ≤ 1
end_count_at_most None = omega arith
end_count_at_most (Some e) = omega arith

pub one_view : (layout : Layout) (s : TableState) → IsLinked layout s → (x : ℕ) → is_end layout.ranks x ≡ true → IsInOneView s x
one_view layout s r x is =
    let one : total (λ v. occurrences x v.ends) s.views ≡ 1 = r.one_place x ∙ ap (λ b. cond b 1 0) is in
    let p = positive_part (λ v. occurrences x v.ends) s.views (omega arith) in
    let most = end_count_at_most (end_in p.1.ends x) in
    let some_there = p.3 in
    record {
      place = p.0;
      view_there = p.1;
      there = p.2;
      has = omega arith;
      alone = λ j v ne at_j. let two = end_once layout s r p.0 j x p.1 v ne p.2 at_j in omega arith;
    }

pub even_sender : (layout : Layout) (s : TableState) → IsLinked layout s → (j link n : ℕ) (v : View) (e : End) → get_elem? s.views j ≡ some v
    → end_in v.ends (sending_end link) ≡ Some e → slice_index s.words link ≡ 2 * n → e.next ≡ n
even_sender layout s r j link n v e here at_x turn = ⊎_elim (λ t. omega arith)
    (λ (t : (slice_index s.words link + 1 ≡ 2 * e.next) × (e.busy ≡ false)). let u = t.0 in absurd (omega arith))
    (((r.each j v here).ends (sending_end link) e at_x).sender link refl).turn

pub even_receiver : (layout : Layout) (s : TableState) → IsLinked layout s → (j link n : ℕ) (v : View) (e : End) → get_elem? s.views j ≡ some v
    → end_in v.ends (receiving_end link) ≡ Some e → slice_index s.words link ≡ 2 * n → (e.next ≡ n) × (e.busy ≡ false)
even_receiver layout s r j link n v e here at_x turn = ⊎_elim
    (λ (t : (slice_index s.words link ≡ 2 * e.next) × (e.busy ≡ false)). let u = t.0 in (omega arith, t.1))
    (λ t. absurd (omega arith))
    (((r.each j v here).ends (receiving_end link) e at_x).receiver link refl)

pub odd_sender : (layout : Layout) (s : TableState) → IsLinked layout s → (j link n : ℕ) (v : View) (e : End) → get_elem? s.views j ≡ some v
    → end_in v.ends (sending_end link) ≡ Some e → slice_index s.words link ≡ 2 * n + 1 → (e.next ≡ n + 1) × (e.busy ≡ false)
odd_sender layout s r j link n v e here at_x turn = ⊎_elim (λ t. absurd (omega arith))
    (λ (t : (slice_index s.words link + 1 ≡ 2 * e.next) × (e.busy ≡ false)). let u = t.0 in (omega arith, t.1))
    (((r.each j v here).ends (sending_end link) e at_x).sender link refl).turn

pub odd_receiver : (layout : Layout) (s : TableState) → IsLinked layout s → (j link n : ℕ) (v : View) (e : End) → get_elem? s.views j ≡ some v
    → end_in v.ends (receiving_end link) ≡ Some e → slice_index s.words link ≡ 2 * n + 1 → e.next ≡ n
odd_receiver layout s r j link n v e here at_x turn = ⊎_elim
    (λ (t : (slice_index s.words link ≡ 2 * e.next) × (e.busy ≡ false)). let u = t.0 in absurd (omega arith))
    (λ t. omega arith)
    (((r.each j v here).ends (receiving_end link) e at_x).receiver link refl)

pub odd_packet : (layout : Layout) (s : TableState) → IsLinked layout s → (j link n : ℕ) (v : View) → get_elem? s.views j ≡ some v → v.joined ≡ false
    → link < turn_count layout → slice_index s.words link ≡ 2 * n + 1 → HavePacket layout v.script s.words link n
odd_packet layout s r j link n v here a lo turn =
    subst (λ (t : LinkScript). HavePacket layout t s.words link n) (same_script layout s r j v here a) (r.full link n lo turn)

pub busy_sender : (layout : Layout) (s : TableState) → IsLinked layout s → (j link : ℕ) (v : View) (e : End) → get_elem? s.views j ≡ some v
    → end_in v.ends (sending_end link) ≡ Some e → e.busy ≡ true → PutsPacket layout v.script s.words link e
busy_sender layout s r j link v e here at_x b =
    let f = r.each j v here in
    subst (λ (t : LinkScript). PutsPacket layout t s.words link e) (sym (f.script_is (in_use v.joined refl)))
    (((f.ends (sending_end link) e at_x).sender link refl).puts b)
  where
    in_use : (c : Bool) → v.joined ≡ c → c ≡ false
    in_use false is = refl
    in_use true is =
        let none_there : end_in [] (sending_end link) ≡ Some e = ap (λ m. end_in m (sending_end link)) (sym ((r.each j v here).no_end is)) ∙ at_x in
        absurd cc

-- answers by the loaded word
last_after_steps : (x n : ℕ) (f : End → End) (h k : Holding) → has_idle h x ≡ true → k ≡ after_steps x f n h → (e : End) × (end_in h.ends x ≡ Some e)
    × (last_word k x ≡ (f e).last)
last_after_steps x n f h k has_end a =
    let e = idle_end_of (end_in h.ends x) has_end in (e.0, e.1, ap last_of (end_after_steps x n f h k e.0 e.1 a))

last_after_load : (x word : ℕ) (h k : Holding) → has_idle h x ≡ true → k ≡ after_load x word h → last_word k x ≡ Some word
last_after_load x word h k has_end a = (last_after_steps x 1 (λ e. idle_end e.next (Some word)) h k has_end a).2

same_word : {o : Option ℕ} {m n : ℕ} → o ≡ Some m → o ≡ Some n → m ≡ n
same_word e f = cc

pub post_answer : (x : ℕ) (packet : List ℕ) (answer : PostAnswer) (h k : Holding) → has_idle h x ≡ true → Posts x packet answer h k → (word : ℕ)
    → last_word k x ≡ Some word → (answer ≡ PostNotYet word) ↔ (word % 2 ≡ 1)
post_answer x packet Posted h k has_end p word last =
    let l = last_after_steps x (length packet + 3) (λ e. idle_end (e.next + 1) (Some (2 * e.next))) h k has_end p in
    let even : word ≡ 2 * l.0.next = same_word last l.2 in
    ((λ e. absurd cc), (λ e. absurd (omega arith)))
post_answer x packet (PostNotYet found) h k has_end p word last =
    let same : found ≡ word = same_word (last_after_load x found h k has_end p.2) last in
    ((λ _. ap (λ n. n % 2) (sym same) ∙ p.0), (λ _. ap PostNotYet same))

pub post_step : (x : ℕ) (packet : List ℕ) (word : ℕ) (h k : Holding) → has_idle h x ≡ true → Posts x packet (PostNotYet word) h k
    → (last_word k x ≡ Some word) × (k.steps ≡ h.steps + 1)
post_step x packet word h k has_end p = (last_after_load x word h k has_end p.2, ap (λ (z : Holding). z.steps) p.2)

pub take_answer : (link x : ℕ) (answer : TakeAnswer) (h k : Holding) (old new : PacketWords) → has_idle h x ≡ true → Takes link x answer h k old new
    → (word : ℕ) → last_word k x ≡ Some word → (answer ≡ TakeNotYet word) ↔ (word % 2 ≡ 0)
take_answer link x Taken h k old new has_end p word last =
    let l = last_after_steps x (length new.words + 3) (λ e. idle_end (e.next + 1) (Some (2 * e.next + 1))) h k has_end p.2 in
    let odd : word ≡ 2 * l.0.next + 1 = same_word last l.2 in
    ((λ e. absurd cc), (λ e. absurd (omega arith)))
take_answer link x (TakeNotYet found) h k old new has_end p word last =
    let same : found ≡ word = same_word (last_after_load x found h k has_end p.2) last in
    ((λ _. ap (λ n. n % 2) (sym same) ∙ p.0), (λ _. ap TakeNotYet same))

pub take_step : (link x word : ℕ) (h k : Holding) (old new : PacketWords) → has_idle h x ≡ true → Takes link x (TakeNotYet word) h k old new
    → (last_word k x ≡ Some word) × (k.steps ≡ h.steps + 1)
take_step link x word h k old new has_end p = (last_after_load x word h k has_end p.2, ap (λ (z : Holding). z.steps) p.2)

-- links and pairs of ranks
pub sending_rank : (ranks a b : ℕ) → b < ranks → turn_word ranks a b / ranks ≡ a
sending_rank ranks a b lt = div-mul-add a ranks b lt

pub receiving_rank : (ranks a b : ℕ) → b < ranks → turn_word ranks a b % ranks ≡ b
receiving_rank ranks a b lt = mod-mul-add a ranks b lt

turn_below : (ranks a b : ℕ) → a < ranks → b < ranks → turn_word ranks a b < ranks * ranks
turn_below ranks a b la lb =
    let m : suc a * ranks ≤ ranks * ranks = mul-le-mul_right ranks la in omega (arith, suc-mul a ranks)

pub pair_is_link : (ranks a b : ℕ) → a < ranks → b < ranks → a ≢ b → is_link ranks (turn_word ranks a b) ≡ true
pair_is_link ranks a b la lb ne =
    ap₂ (λ c d. c && not d) (lt-ltb (turn_word ranks a b) (ranks * ranks) (turn_below ranks a b la lb))
    (ap₂ eqb (sending_rank ranks a b lb) (receiving_rank ranks a b lb) ∙ ne_eqb a b ne)

pub link_is_pair : (ranks link : ℕ) → 0 < ranks → is_link ranks link ≡ true
    → (a b : ℕ) × (a < ranks) × (b < ranks) × (a ≢ b) × (link ≡ turn_word ranks a b)
link_is_pair ranks link above is =
    let p = ranks_of_link ranks link above is in
    (link / ranks, link % ranks, p.0, p.1, p.2, sym (div-add-mod' link ranks))

pub next_first_word : (ranks : ℕ) (sizes : List (List ℕ)) (link : ℕ) → link < ranks * ranks
    → first_word (layout_of ranks sizes) (link + 1) ≡ first_word (layout_of ranks sizes) link + given_room ranks sizes link
next_first_word ranks sizes link lt =
    let a = first_word_of ranks sizes link (omega arith) in
    let b = first_word_of ranks sizes (link + 1) (omega arith) in
    let more = first_of_more ranks sizes link in omega arith

pub size_of_pair : (ranks : ℕ) (sizes : List (List ℕ)) (a b : ℕ) → a < ranks → b < ranks → a ≢ b
    → packet_size (layout_of ranks sizes) (turn_word ranks a b) ≡ given_size sizes a b
size_of_pair ranks sizes a b la lb ne =
    let r = room_of_layout ranks sizes (turn_word ranks a b) (pair_is_link ranks a b la lb ne) in
    let same = ap₂ (given_size sizes) (sending_rank ranks a b lb) (receiving_rank ranks a b lb) in omega arith

pub packets_of_pair : (ranks a b : ℕ) (packets : ℕ → ℕ → List (List ℕ)) → a < ranks → b < ranks
    → slice_index_or (script_over ranks packets) (turn_word ranks a b) [] ≡ packets a b
packets_of_pair ranks a b packets la lb =
    packets_of_link ranks packets (turn_word ranks a b) (turn_below ranks a b la lb)
    ∙ ap₂ packets (sending_rank ranks a b lb) (receiving_rank ranks a b lb)
