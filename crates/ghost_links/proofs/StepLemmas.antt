-- Each kind of step keeps the link rule.
use Rattle.std.proofs.Common.{◌≡◌, ◌≢◌, ℕ, zero, suc, ◌+◌, ◌*◌, ◌/◌, ◌%◌, ◌<◌, ◌≤◌, not, eqb, eq-eqb, ne_eqb, List, [], ◌∷◌, ◌++◌, length, set, get_or, Some, None, Bool, true, false, cond, refl, sym, ap, ◌∙◌, subst, ⊎_elim, inl, inr, arith, suc-mul, length-set, get_or-set_other, get_or-set_same, replicate}
use Rattle.std.specs.Prelude.{slice_index}
use Rattle.std.specs.declared.option.Option.{Option}
use Rattle.std.proofs.lemmas.List.{length-replicate}
use mathlib.Core.Option.{Option as Option?, some, none, some-injective, some-ne-none}
use mathlib.Core.Logic.{dite}
use native.Mathlib.Decide.{dec_le, ℕ_discrete}
use lib.ListN.{get_elem?}
use lib.Seq.{set-get_or}
use Rattle.atomic_table.specs.Table.{step, keeps, stepped, opening, Allows, Splits, Joins}
use Rattle.atomic_table.proofs.Lists.{at_set, at_snoc, set_else}
use Rattle.ghost_links.specs.declared.view.End.{End}
use Rattle.ghost_links.specs.declared.view.View.{View}
use Rattle.ghost_links.specs.Layouts.{IsLayout, Layout, first_word, is_link, room, turn_count, word_count}
use Rattle.ghost_links.specs.Scripts.{LinkScript, area, packet_of, script_over}
use Rattle.ghost_links.specs.Ends.{all_ends, busy_end, end_in, idle_end, is_end, occurrences, receiving_end, rank_of_end, sending_end}
use Rattle.ghost_links.specs.Views.{changed_view, counted_view, after_turn_store, first_view, handed_view, is_even, joined_view, kept_view, after_data_store, opening_view, after_receiver_load, after_sender_load, spent_view}
use Rattle.ghost_links.specs.LinkRule.{EndFits, FitsLayout, FollowsRule, HavePacket, HaveWords, IsLinked, PutsPacket, ReceiverFits, SenderFits, TableState, ViewFits, total}
use Rattle.ghost_links.specs.Holdings.{IsSeat}
use Rattle.ghost_links.specs.Steps.{SeatState, LoadsData, ReceiverLoads, ReceiverStores, SenderLoads, SenderStores, SetsScript, StoresData}
use Rattle.ghost_links.proofs.LayoutLemmas.{data_apart, data_is_a_word, end_of_receiver, end_of_sender, link_below, turn_is_a_word, turn_is_no_data}
use Rattle.ghost_links.proofs.MapLemmas.{each_append, each_changed, each_of_none, each_restriction, new_end, no_new_end, occurrences_in_append, occurrences_in_changed, occurrences_in_restriction, occurrences_of_end, occurrences_of_new}
use Rattle.ghost_links.proofs.SumLemmas.{total_at, total_set, total_snoc, total_two}

-- a seat's table has its script
pub in_use : (layout : Layout) (s : TableState) (id : ℕ) (v : View) → FollowsRule layout s → get_elem? s.views id ≡ some v → IsSeat v → IsLinked layout s
in_use layout s id v (inr r) here seat = r
in_use layout s id v (inl r) here seat = absurd (go id (ap (λ vs. get_elem? vs id) (sym r.views) ∙ here))
  where
    go : (i : ℕ) → get_elem? (opening_view ∷ []) i ≡ some v → ⊥
    go zero e =
        let same : 0 ≡ v.layout.ranks = ap (λ u. u.layout.ranks) (some-injective opening_view v e) in
        let more = seat.layout_holds.some_rank in omega arith
    go (suc i) e = some-ne-none v (sym e)

one_at_most : (b : Bool) → cond b 1 0 ≤ 1
one_at_most true = omega arith
one_at_most false = omega arith

some_is_true : (b : Bool) → 0 < cond b 1 0 → b ≡ true
some_is_true true h = refl
some_is_true false h = absurd (omega arith)

-- an end of one view is in no other
pub end_once : (layout : Layout) (s : TableState) (r : IsLinked layout s) (id j x : ℕ) (v u : View) → j ≢ id → get_elem? s.views id ≡ some v
    → get_elem? s.views j ≡ some u → occurrences x v.ends + occurrences x u.ends ≤ 1
end_once layout s r id j x v u ne here at_j =
    let two = total_two (λ t. occurrences x t.ends) s.views id j v u (λ e. ne (sym e)) here at_j in
    let one = r.one_place x in
    let most = one_at_most (is_end layout.ranks x) in omega arith

pub end_is_of_link : (layout : Layout) (s : TableState) (r : IsLinked layout s) (id x : ℕ) (v : View) (e : End) → get_elem? s.views id ≡ some v
    → end_in v.ends x ≡ Some e → is_end layout.ranks x ≡ true
end_is_of_link layout s r id x v e here at_x =
    let one = occurrences_of_end v.ends x e at_x in
    let part = total_at (λ t. occurrences x t.ends) s.views id v here in
    let is = r.one_place x in some_is_true (is_end layout.ranks x) (omega arith)

-- Words that agree at a link: the turn word, and the data words.
record Agrees (layout : Layout) (ws us : List ℕ) (link : ℕ) : Type 0 where
  turn : slice_index us link ≡ slice_index ws link
  words : (j : ℕ) → j < room layout link → slice_index us (first_word layout link + j) ≡ slice_index ws (first_word layout link + j)

have_words_elsewhere : (layout : Layout) (ws us : List ℕ) (link n : ℕ) (list : List ℕ) → n ≤ room layout link
    → ((j : ℕ) → j < room layout link → slice_index us (first_word layout link + j) ≡ slice_index ws (first_word layout link + j))
    → HaveWords ws (first_word layout link) n list → HaveWords us (first_word layout link) n list
have_words_elsewhere layout ws us link n list le same h j lt = same j (omega arith) ∙ h j lt

puts_elsewhere : (layout : Layout) (script : LinkScript) (fits : FitsLayout layout script) (ws us : List ℕ) (link : ℕ) (e : End)
    → is_link layout.ranks link ≡ true
    → ((j : ℕ) → j < room layout link → slice_index us (first_word layout link + j) ≡ slice_index ws (first_word layout link + j))
    → PutsPacket layout script ws link e → PutsPacket layout script us link e
puts_elsewhere layout script fits ws us link e is same p =
    let room_for = fits.fits link e.next p.packet is p.packet_is in
    let le = p.put in
    record {
      packet = p.packet;
      packet_is = p.packet_is;
      put = p.put;
      words_are = have_words_elsewhere layout ws us link e.put (area p.packet) (omega arith) same p.words_are;
    }

packet_elsewhere : (layout : Layout) (script : LinkScript) (fits : FitsLayout layout script) (ws us : List ℕ) (link n : ℕ)
    → is_link layout.ranks link ≡ true
    → ((j : ℕ) → j < room layout link → slice_index us (first_word layout link + j) ≡ slice_index ws (first_word layout link + j))
    → HavePacket layout script ws link n → HavePacket layout script us link n
packet_elsewhere layout script fits ws us link n is same p =
    let room_for = fits.fits link n p.packet is p.packet_is in
    record {
      packet = p.packet;
      packet_is = p.packet_is;
      words_are = have_words_elsewhere layout ws us link (length (area p.packet)) (area p.packet) (omega arith) same p.words_are;
    }

sender_elsewhere : (layout : Layout) (script : LinkScript) (fits : FitsLayout layout script) (ws us : List ℕ) (link : ℕ) (e : End)
    → is_link layout.ranks link ≡ true → Agrees layout ws us link
    → SenderFits layout script ws link e → SenderFits layout script us link e
sender_elsewhere layout script fits ws us link e is a f = record {
  turn = ⊎_elim (λ t. inl (a.turn ∙ t)) (λ (t : (slice_index ws link + 1 ≡ 2 * e.next) × (e.busy ≡ false)). inr (ap (λ k. k + 1) a.turn ∙ t.0, t.1)) f.turn;
  puts = λ b. puts_elsewhere layout script fits ws us link e is a.words (f.puts b);
}

receiver_elsewhere : (ws us : List ℕ) (link : ℕ) (e : End) → slice_index us link ≡ slice_index ws link → ReceiverFits ws link e → ReceiverFits us link e
receiver_elsewhere ws us link e a f =
    ⊎_elim (λ (t : (slice_index ws link ≡ 2 * e.next) × (e.busy ≡ false)). inl (a ∙ t.0, t.1)) (λ t. inr (a ∙ t)) f

-- views after one of them changed
fits_after_set : (layout : Layout) (script : LinkScript) (ws : List ℕ) (vs : List View) (id : ℕ) (w : View) → ViewFits layout script ws w
    → ((j : ℕ) (u : View) → j ≢ id → get_elem? vs j ≡ some u → ViewFits layout script ws u)
    → (j : ℕ) (u : View) → get_elem? (set vs id w) j ≡ some u → ViewFits layout script ws u
fits_after_set layout script ws vs id w mine others j u e = ⊎_elim
    (λ (t : (j ≡ id) × (w ≡ u)). subst (ViewFits layout script ws) t.1 mine)
    (λ (t : (j ≢ id) × (get_elem? vs j ≡ some u)). others j u t.0 t.1)
    (at_set vs id j w u e)

-- One view changes, but not which ends it has.
linked_after : (layout : Layout) (s : TableState) (r : IsLinked layout s) (id : ℕ) (v w : View) (us : List ℕ)
    → get_elem? s.views id ≡ some v → length us ≡ length s.words → ((x : ℕ) → occurrences x w.ends ≡ occurrences x v.ends)
    → ViewFits layout r.script us w
    → ((j : ℕ) (u : View) → j ≢ id → get_elem? s.views j ≡ some u → ViewFits layout r.script us u)
    → ((link : ℕ) → link < turn_count layout → is_link layout.ranks link ≡ false → slice_index us link ≡ 0)
    → ((link n : ℕ) → link < turn_count layout → slice_index us link ≡ 2 * n + 1 → HavePacket layout r.script us link n)
    → IsLinked layout record { words = us; homes = s.homes; views = set s.views id w }
linked_after layout s r id v w us here same_length ends mine others unused full = record {
  script = r.script;
  script_fits = r.script_fits;
  length_is = same_length ∙ r.length_is;
  one_place = λ x.
      let t = total_set (λ u. occurrences x u.ends) s.views id v w here in
      let one = r.one_place x in
      let p = ends x in omega arith;
  unused = unused;
  full = full;
  each = fits_after_set layout r.script us s.views id w mine others;
}

-- One end changes: what holds of it, and of all other ends.
pub end_after : (layout : Layout) (s : TableState) (r : IsLinked layout s) (id x : ℕ) (f : End → End) (v : View) (e : End) (us : List ℕ)
    → get_elem? s.views id ≡ some v → end_in v.ends x ≡ Some e → length us ≡ length s.words → EndFits layout r.script us x (f e)
    → ((y : ℕ) (g : End) → y ≢ x → is_end layout.ranks y ≡ true → EndFits layout r.script s.words y g → EndFits layout r.script us y g)
    → ((link : ℕ) → link < turn_count layout → is_link layout.ranks link ≡ false → slice_index us link ≡ 0)
    → ((link n : ℕ) → link < turn_count layout → slice_index us link ≡ 2 * n + 1 → HavePacket layout r.script us link n)
    → IsLinked layout record { words = us; homes = s.homes; views = set s.views id (changed_view x f v) }
end_after layout s r id x f v e us here at_x same_length mine others unused full =
    let w = changed_view x f v in
    let fit = r.each id v here in
    linked_after layout s r id v w us here same_length (λ y. occurrences_in_changed x y f v.ends)
    record {
      script_is = fit.script_is;
      no_end = λ j. absurd (no_end_there (fit.no_end j));
      ends = each_changed (EndFits layout r.script us) x f v.ends e at_x mine
          (λ y g ne q. others y g ne (end_is_of_link layout s r id y v g here q) (fit.ends y g q));
    }
    (λ j u ne at_j.
    let g = r.each j u at_j in
    record {
      script_is = g.script_is;
      no_end = g.no_end;
      ends = λ y h q. others y h (apart j u ne at_j y h q) (end_is_of_link layout s r j y u h at_j q) (g.ends y h q);
    })
    unused full
  where
    no_end_there : v.ends ≡ [] → ⊥
    no_end_there empty =
        let there : end_in [] x ≡ Some e = ap (λ m. end_in m x) (sym empty) ∙ at_x in absurd cc

    apart : (j : ℕ) (u : View) → j ≢ id → get_elem? s.views j ≡ some u → (y : ℕ) (h : End) → end_in u.ends y ≡ Some h → y ≢ x
    apart j u ne at_j y h q same =
        let two = end_once layout s r id j x v u ne here at_j in
        let one = occurrences_of_end v.ends x e at_x in
        let more = occurrences_of_end u.ends x h (subst (λ z. end_in u.ends z ≡ Some h) same q) in omega arith

-- parity
even_word : (word n : ℕ) → word ≡ 2 * n → is_even word ≡ true
even_word word n e = let rest : word % 2 ≡ 0 = omega arith in eq-eqb (word % 2) 0 rest

odd_word : (word n : ℕ) → word + 1 ≡ 2 * n → is_even word ≡ false
odd_word word n e = let rest : word % 2 ≢ 0 = omega arith in ne_eqb (word % 2) 0 rest

odd_word_too : (word n : ℕ) → word ≡ 2 * n + 1 → is_even word ≡ false
odd_word_too word n e = let rest : word % 2 ≢ 0 = omega arith in ne_eqb (word % 2) 0 rest

-- ends of one link
sender_at : (layout : Layout) (script : LinkScript) (ws : List ℕ) (link : ℕ) (e : End) → SenderFits layout script ws link e
    → EndFits layout script ws (sending_end link) e
sender_at layout script ws link e h = record {
  sender = λ m is. let same : link ≡ m = omega arith in subst (λ k. SenderFits layout script ws k e) same h;
  receiver = λ m is. absurd (omega arith);
}

receiver_at : (layout : Layout) (script : LinkScript) (ws : List ℕ) (link : ℕ) (e : End) → ReceiverFits ws link e
    → EndFits layout script ws (receiving_end link) e
receiver_at layout script ws link e h = record {
  sender = λ m is. absurd (omega arith);
  receiver = λ m is. let same : link ≡ m = omega arith in subst (λ k. ReceiverFits ws k e) same h;
}

-- a load changes no word
load_after : (layout : Layout) (s : TableState) (r : IsLinked layout s) (i id x : ℕ) (f : End → End) (me : SeatState) (e : End)
    → get_elem? s.views id ≡ some me.0 → end_in me.0.ends x ≡ Some e → EndFits layout r.script s.words x (f e)
    → FollowsRule layout (stepped s i (slice_index s.words i) id me.1 (changed_view x f me.0) keeps)
load_after layout s r i id x f me e here at_x mine =
    subst (λ (ws : List ℕ). FollowsRule layout record { words = ws; homes = s.homes; views = set s.views id (changed_view x f me.0) })
    (sym (set-get_or s.words i 0))
    (inr (end_after layout s r id x f me.0 e s.words here at_x refl mine (λ y g _ _ h. h) r.unused r.full))

-- the sender's load of the turn word
sender_after_load : (layout : Layout) (script : LinkScript) (ws : List ℕ) (link : ℕ) (e : End) (packet : List ℕ) → SenderFits layout script ws link e
    → packet_of script link e.next ≡ Some packet → SenderFits layout script ws link (after_sender_load (slice_index ws link) e)
sender_after_load layout script ws link e packet f p = ⊎_elim
    (λ t. subst (SenderFits layout script ws link)
    (sym (ap (λ b. cond b (busy_end e.next 0 (Some (slice_index ws link))) (idle_end e.next (Some (slice_index ws link)))) (even_word (slice_index ws link) e.next t)))
    record {
      turn = inl t;
      puts = λ _. record { packet = packet; packet_is = p; put = omega arith; words_are = λ j lt. absurd (omega arith) };
    })
    (λ (t : (slice_index ws link + 1 ≡ 2 * e.next) × (e.busy ≡ false)). subst (SenderFits layout script ws link)
    (sym (ap (λ b. cond b (busy_end e.next 0 (Some (slice_index ws link))) (idle_end e.next (Some (slice_index ws link)))) (odd_word (slice_index ws link) e.next t.0)))
    record { turn = inr (t.0, refl); puts = λ b. absurd cc })
    f.turn

pub sender_load_keeps : (layout : Layout) (slots id link : ℕ) (me : SeatState) (e : End) (packet : List ℕ) → IsSeat me.0
    → end_in me.0.ends (sending_end link) ≡ Some e → packet_of me.0.script link e.next ≡ Some packet
    → Allows (FollowsRule layout) slots id me link (λ k. k) (SenderLoads (step slots link 0 0 none) me)
sender_load_keeps layout slots id link me e packet seat at_x p s rule _ here _ =
    let r = in_use layout s id me.0 rule here seat in
    let v = r.each id me.0 here in
    let f = (v.ends (sending_end link) e at_x).sender link refl in
    let p' : packet_of r.script link e.next ≡ Some packet = ap (λ t. packet_of t link e.next) (sym (v.script_is seat.in_use)) ∙ p in (
      changed_view (sending_end link) (after_sender_load (slice_index s.words link)) me.0,
      keeps,
      tt,
      load_after layout s r link id (sending_end link) (after_sender_load (slice_index s.words link)) me e here at_x
          (sender_at layout r.script s.words link (after_sender_load (slice_index s.words link) e) (sender_after_load layout r.script s.words link e packet f p')),
      (
        refl,
        λ g q. ⊎_elim (λ t. inl t) (λ (t : (slice_index s.words link + 1 ≡ 2 * g.next) × (g.busy ≡ false)). inr t.0)
            ((v.ends (sending_end link) g q).sender link refl).turn,
      ),
    )

-- the receiver's load of the turn word
receiver_after_load : (ws : List ℕ) (link : ℕ) (e : End) → ReceiverFits ws link e → ReceiverFits ws link (after_receiver_load (slice_index ws link) e)
receiver_after_load ws link e f = ⊎_elim
    (λ (t : (slice_index ws link ≡ 2 * e.next) × (e.busy ≡ false)). subst (ReceiverFits ws link)
    (sym (ap (λ b. cond b (idle_end e.next (Some (slice_index ws link))) (busy_end e.next 0 (Some (slice_index ws link)))) (even_word (slice_index ws link) e.next t.0)))
    (inl (t.0, refl)))
    (λ t. subst (ReceiverFits ws link)
    (sym (ap (λ b. cond b (idle_end e.next (Some (slice_index ws link))) (busy_end e.next 0 (Some (slice_index ws link)))) (odd_word_too (slice_index ws link) e.next t)))
    (inr t))
    f

pub receiver_load_keeps : (layout : Layout) (slots id link : ℕ) (me : SeatState) (e : End) → IsSeat me.0
    → is_link layout.ranks link ≡ true → end_in me.0.ends (receiving_end link) ≡ Some e
    → Allows (FollowsRule layout) slots id me link (λ k. k) (ReceiverLoads (step slots link 0 0 none) me)
receiver_load_keeps layout slots id link me e seat is at_x s rule _ here _ =
    let r = in_use layout s id me.0 rule here seat in
    let v = r.each id me.0 here in
    let f = (v.ends (receiving_end link) e at_x).receiver link refl in (
      changed_view (receiving_end link) (after_receiver_load (slice_index s.words link)) me.0,
      keeps,
      tt,
      load_after layout s r link id (receiving_end link) (after_receiver_load (slice_index s.words link)) me e here at_x
          (receiver_at layout r.script s.words link (after_receiver_load (slice_index s.words link) e) (receiver_after_load s.words link e f)),
      (
        refl,
        λ g q. ⊎_elim (λ (t : (slice_index s.words link ≡ 2 * g.next) × (g.busy ≡ false)). inl t.0)
            (λ t.
            let full = r.full link g.next (link_below layout.ranks link is) t in
            inr (t, (full.packet, ap (λ z. packet_of z link g.next) (v.script_is seat.in_use) ∙ full.packet_is)))
            ((v.ends (receiving_end link) g q).receiver link refl),
      ),
    )

-- an odd turn word is that of a link
odd_is_link : (layout : Layout) (s : TableState) (r : IsLinked layout s) (link : ℕ) → link < turn_count layout → (n : ℕ)
    → slice_index s.words link ≡ 2 * n + 1 → is_link layout.ranks link ≡ true
odd_is_link layout s r link lo n odd = go (is_link layout.ranks link) refl
  where
    go : (b : Bool) → is_link layout.ranks link ≡ b → b ≡ true
    go true is = refl
    go false is = let z = r.unused link lo is in absurd (omega arith)

busy_receiver : (ws : List ℕ) (link : ℕ) (e : End) → e.busy ≡ true → ReceiverFits ws link e → slice_index ws link ≡ 2 * e.next + 1
busy_receiver ws link e b f = ⊎_elim (λ (t : (slice_index ws link ≡ 2 * e.next) × (e.busy ≡ false)). let i = t.1 in absurd cc) (λ t. t) f

same_some : {a b : End} {o : Option End} → o ≡ Some a → o ≡ Some b → a ≡ b
same_some e f = cc

-- a data store: other links agree, and so do all turn words
data_store_agrees : (layout : Layout) → IsLayout layout → (ws : List ℕ) (link place k m : ℕ) → m ≢ link → link < turn_count layout → m < turn_count layout
    → place < room layout link → Agrees layout ws (set ws (first_word layout link + place) k) m
data_store_agrees layout h ws link place k m ne lo hi lt = record {
  turn = get_or-set_other ws (first_word layout link + place) m k 0 (turn_is_no_data layout h m link place hi (omega arith));
  words = λ j in_room. get_or-set_other ws (first_word layout link + place) (first_word layout m + j) k 0
      (data_apart layout h link m place j ne lo hi lt in_room);
}

data_store_elsewhere : (layout : Layout) → IsLayout layout → (script : LinkScript) (fits : FitsLayout layout script) (ws : List ℕ) (link place k : ℕ)
    → link < turn_count layout → place < room layout link
    → (y : ℕ) (g : End) → y ≢ sending_end link → is_end layout.ranks y ≡ true → EndFits layout script ws y g
    → EndFits layout script (set ws (first_word layout link + place) k) y g
data_store_elsewhere layout h script fits ws link place k lo lt y g ne is f = record {
  sender = λ m at_m.
      let is_m : is_link layout.ranks m ≡ true = sym (end_of_sender layout.ranks m y at_m) ∙ is in
      let other : m ≢ link = λ q. ne (at_m ∙ ap sending_end q) in
      sender_elsewhere layout script fits ws (set ws (first_word layout link + place) k) m g is_m
      (data_store_agrees layout h ws link place k m other lo (link_below layout.ranks m is_m) lt) (f.sender m at_m);
  receiver = λ m at_m.
      let is_m : is_link layout.ranks m ≡ true = sym (end_of_receiver layout.ranks m y at_m) ∙ is in
      receiver_elsewhere ws (set ws (first_word layout link + place) k) m g
      (get_or-set_other ws (first_word layout link + place) m k 0
      (turn_is_no_data layout h m link place (link_below layout.ranks m is_m) (omega arith)))
      (f.receiver m at_m);
}

one_more_word : (ws : List ℕ) (first n k : ℕ) (list : List ℕ) → first + n < length ws → k ≡ slice_index list n → HaveWords ws first n list
    → HaveWords (set ws (first + n) k) first (n + 1) list
one_more_word ws first n k list inside is h j lt = dite (ℕ_discrete j n)
    (λ e. subst (λ i. slice_index (set ws (first + n) k) (first + i) ≡ slice_index list i) (sym e) (get_or-set_same ws (first + n) k 0 inside ∙ is))
    (λ ne. get_or-set_other ws (first + n) (first + j) k 0 (λ q. ne (omega arith)) ∙ h j (omega arith))

-- a busy sender's turn word is even
busy_turn : (layout : Layout) (script : LinkScript) (ws : List ℕ) (link : ℕ) (e : End) → e.busy ≡ true → SenderFits layout script ws link e
    → slice_index ws link ≡ 2 * e.next
busy_turn layout script ws link e b f = ⊎_elim (λ t. t) (λ (t : (slice_index ws link + 1 ≡ 2 * e.next) × (e.busy ≡ false)). let i = t.1 in absurd cc) f.turn

same_packet : (script : LinkScript) (link n : ℕ) (p q : List ℕ) → packet_of script link n ≡ Some p → packet_of script link n ≡ Some q → p ≡ q
same_packet script link n p q e f = cc

is_linked_inr : (layout : Layout) (s : TableState) (i k id : ℕ) (me : SeatState) (w : View)
    → IsLinked layout record { words = set s.words i k; homes = s.homes; views = set s.views id w }
    → FollowsRule layout (stepped s i k id me.1 w keeps)
is_linked_inr layout s i k id me w r = inr r

pub data_store_keeps : (layout : Layout) (slots id link k : ℕ) (me : SeatState) (e : End) (packet : List ℕ) → IsLayout layout → IsSeat me.0
    → is_link layout.ranks link ≡ true → end_in me.0.ends (sending_end link) ≡ Some e → e.busy ≡ true
    → packet_of me.0.script link e.next ≡ Some packet → e.put < length (area packet) → k ≡ slice_index (area packet) e.put
    → Allows (FollowsRule layout) slots id me (first_word layout link + e.put) (λ _. k)
    (λ _. StoresData link (step slots (first_word layout link + e.put) k 0 none) me k)
data_store_keeps layout slots id link k me e packet h seat is at_x b p lt k_is s rule _ here _ =
    let r = in_use layout s id me.0 rule here seat in
    let v = r.each id me.0 here in
    let i = first_word layout link + e.put in
    let us = set s.words i k in
    let f = (v.ends (sending_end link) e at_x).sender link refl in
    let lo = link_below layout.ranks link is in
    let turn = busy_turn layout r.script s.words link e b f in
    let puts = f.puts b in
    let p' : packet_of r.script link e.next ≡ Some packet = ap (λ t. packet_of t link e.next) (sym (v.script_is seat.in_use)) ∙ p in
    let same : puts.packet ≡ packet = same_packet r.script link e.next puts.packet packet puts.packet_is p' in
    let room_for = r.script_fits.fits link e.next packet is p' in
    let in_room : e.put < room layout link = omega arith in
    let width = r.length_is in
    let inside : i < length s.words = let d = data_is_a_word layout h link e.put lo in_room in omega arith in
    let mine : SenderFits layout r.script us link (after_data_store e) = record {
      turn = inl (get_or-set_other s.words i link k 0 (turn_is_no_data layout h link link e.put lo (omega arith)) ∙ turn);
      puts = λ _. record {
        packet = packet;
        packet_is = p';
        put = omega arith;
        words_are = one_more_word s.words (first_word layout link) e.put k (area packet) inside k_is
            (subst (λ q. HaveWords s.words (first_word layout link) e.put (area q)) same puts.words_are);
      };
    } in (
      changed_view (sending_end link) after_data_store me.0,
      keeps,
      tt,
      is_linked_inr layout s i k id me (changed_view (sending_end link) after_data_store me.0)
          (end_after layout s r id (sending_end link) after_data_store me.0 e us here at_x (length-set s.words i k)
          (sender_at layout r.script us link (after_data_store e) mine)
          (data_store_elsewhere layout h r.script r.script_fits s.words link e.put k lo in_room)
          (λ m m_lo unused. get_or-set_other s.words i m k 0 (turn_is_no_data layout h m link e.put m_lo (omega arith)) ∙ r.unused m m_lo unused)
          (full r turn in_room lo)),
      refl,
    )
  where
    full : (r : IsLinked layout s) → slice_index s.words link ≡ 2 * e.next → e.put < room layout link → link < turn_count layout
        → (m n : ℕ) → m < turn_count layout → slice_index (set s.words (first_word layout link + e.put) k) m ≡ 2 * n + 1
        → HavePacket layout r.script (set s.words (first_word layout link + e.put) k) m n
    full r turn in_room lo m n m_lo odd =
        let same_turn = get_or-set_other s.words (first_word layout link + e.put) m k 0 (turn_is_no_data layout h m link e.put m_lo (omega arith)) in
        let old : slice_index s.words m ≡ 2 * n + 1 = sym same_turn ∙ odd in
        let other : m ≢ link = λ q.
        let t : slice_index s.words link ≡ 2 * n + 1 = subst (λ z. slice_index s.words z ≡ 2 * n + 1) q old in
        let even = turn in absurd (omega arith) in
        let is_m = odd_is_link layout s r m m_lo n old in
        packet_elsewhere layout r.script r.script_fits s.words (set s.words (first_word layout link + e.put) k) m n is_m
        ((data_store_agrees layout h s.words link e.put k m other lo m_lo in_room).words) (r.full m n m_lo old)

-- the receiver's data load
pub data_load_keeps : (layout : Layout) (slots id link place : ℕ) (me : SeatState) (e : End) → IsLayout layout → IsSeat me.0
    → is_link layout.ranks link ≡ true → end_in me.0.ends (receiving_end link) ≡ Some e → e.busy ≡ true
    → ((packet : List ℕ) → packet_of me.0.script link e.next ≡ Some packet → place < length (area packet))
    → Allows (FollowsRule layout) slots id me (first_word layout link + place) (λ k. k)
    (LoadsData link place (step slots (first_word layout link + place) 0 0 none) me)
data_load_keeps layout slots id link place me e h seat is at_x b lt s rule _ here _ =
    let r = in_use layout s id me.0 rule here seat in
    let v = r.each id me.0 here in
    let f = (v.ends (receiving_end link) e at_x).receiver link refl in
    let turn : slice_index s.words link ≡ 2 * e.next + 1 = busy_receiver s.words link e b f in
    let full = r.full link e.next (link_below layout.ranks link is) turn in
    let script_is = v.script_is seat.in_use in
    let mine : packet_of me.0.script link e.next ≡ Some full.packet = ap (λ z. packet_of z link e.next) script_is ∙ full.packet_is in (
      counted_view me.0,
      keeps,
      tt,
      subst (λ (ws : List ℕ). FollowsRule layout record { words = ws; homes = s.homes; views = set s.views id (counted_view me.0) })
          (sym (set-get_or s.words (first_word layout link + place) 0))
          (inr (linked_after layout s r id me.0 (counted_view me.0) s.words here refl (λ x. refl)
          record { script_is = v.script_is; no_end = v.no_end; ends = v.ends } (λ j u _ at_j. r.each j u at_j) r.unused r.full)),
      (
        refl,
        λ g packet q p.
            let same_end : e ≡ g = same_some at_x q in
            let p' : packet_of me.0.script link e.next ≡ Some packet = ap (λ (z : End). packet_of me.0.script link z.next) same_end ∙ p in
            let same : full.packet ≡ packet = same_packet me.0.script link e.next full.packet packet mine p' in
            subst (λ z. slice_index s.words (first_word layout link + place) ≡ slice_index (area z) place) same
            (full.words_are place (lt full.packet mine)),
      ),
    )

-- a store of a turn word: other links agree, and so do all data words
turn_store_data : (layout : Layout) → IsLayout layout → (ws : List ℕ) (link k m : ℕ) → link < turn_count layout → m < turn_count layout
    → (j : ℕ) → j < room layout m → slice_index (set ws link k) (first_word layout m + j) ≡ slice_index ws (first_word layout m + j)
turn_store_data layout h ws link k m lo hi j lt =
    get_or-set_other ws link (first_word layout m + j) k 0 (λ q. turn_is_no_data layout h link m j lo (omega arith) (sym q))

turn_store_agrees : (layout : Layout) → IsLayout layout → (ws : List ℕ) (link k m : ℕ) → m ≢ link → link < turn_count layout → m < turn_count layout
    → Agrees layout ws (set ws link k) m
turn_store_agrees layout h ws link k m ne lo hi = record {
  turn = get_or-set_other ws link m k 0 ne;
  words = turn_store_data layout h ws link k m lo hi;
}

turn_store_elsewhere : (layout : Layout) → IsLayout layout → (script : LinkScript) (fits : FitsLayout layout script) (ws : List ℕ) (link k : ℕ)
    → link < turn_count layout → (x : ℕ)
    → ((g : End) → sending_end link ≢ x → SenderFits layout script ws link g → SenderFits layout script (set ws link k) link g)
    → ((g : End) → receiving_end link ≢ x → ReceiverFits ws link g → ReceiverFits (set ws link k) link g)
    → (y : ℕ) (g : End) → y ≢ x → is_end layout.ranks y ≡ true → EndFits layout script ws y g → EndFits layout script (set ws link k) y g
turn_store_elsewhere layout h script fits ws link k lo x sends receives y g ne is f = record {
  sender = λ m at_m.
      let is_m : is_link layout.ranks m ≡ true = sym (end_of_sender layout.ranks m y at_m) ∙ is in dite (ℕ_discrete m link)
      (λ same. subst (λ z. SenderFits layout script (set ws link k) z g) (sym same)
      (sends g (λ q. ne (at_m ∙ (ap sending_end same ∙ q))) (subst (λ z. SenderFits layout script ws z g) same (f.sender m at_m))))
      (λ other. sender_elsewhere layout script fits ws (set ws link k) m g is_m
      (turn_store_agrees layout h ws link k m other lo (link_below layout.ranks m is_m)) (f.sender m at_m));
  receiver = λ m at_m. dite (ℕ_discrete m link)
      (λ same. subst (λ z. ReceiverFits (set ws link k) z g) (sym same)
      (receives g (λ q. ne (at_m ∙ (ap receiving_end same ∙ q))) (subst (λ z. ReceiverFits ws z g) same (f.receiver m at_m))))
      (λ other. receiver_elsewhere ws (set ws link k) m g (get_or-set_other ws link m k 0 other) (f.receiver m at_m));
}

turn_store_unused : (layout : Layout) (s : TableState) (r : IsLinked layout s) (link k : ℕ) → is_link layout.ranks link ≡ true
    → (m : ℕ) → m < turn_count layout → is_link layout.ranks m ≡ false → slice_index (set s.words link k) m ≡ 0
turn_store_unused layout s r link k is m lo unused =
    get_or-set_other s.words link m k 0 (λ q. let same : is_link layout.ranks m ≡ is_link layout.ranks link = ap (is_link layout.ranks) q in absurd cc)
    ∙ r.unused m lo unused

pub post_store_keeps : (layout : Layout) (slots id link k : ℕ) (me : SeatState) (e : End) (packet : List ℕ) → IsLayout layout → IsSeat me.0
    → is_link layout.ranks link ≡ true → end_in me.0.ends (sending_end link) ≡ Some e → e.busy ≡ true
    → packet_of me.0.script link e.next ≡ Some packet → e.put ≡ length (area packet) → k ≡ 2 * e.next + 1
    → Allows (FollowsRule layout) slots id me link (λ _. k) (λ _. SenderStores (step slots link k 0 none) me k)
post_store_keeps layout slots id link k me e packet h seat is at_x b p all k_is s rule _ here _ =
    let r = in_use layout s id me.0 rule here seat in
    let v = r.each id me.0 here in
    let us = set s.words link k in
    let f = (v.ends (sending_end link) e at_x).sender link refl in
    let lo = link_below layout.ranks link is in
    let turn = busy_turn layout r.script s.words link e b f in
    let puts = f.puts b in
    let p' : packet_of r.script link e.next ≡ Some packet = ap (λ t. packet_of t link e.next) (sym (v.script_is seat.in_use)) ∙ p in
    let same : puts.packet ≡ packet = same_packet r.script link e.next puts.packet packet puts.packet_is p' in
    let width = r.length_is in
    let inside : link < length s.words = let d = turn_is_a_word layout h link lo in omega arith in
    let now : slice_index us link ≡ k = get_or-set_same s.words link k 0 inside in
    let now_next : slice_index us link + 1 ≡ 2 * (e.next + 1) = omega arith in
    let whole : HavePacket layout r.script s.words link e.next = record {
      packet = packet;
      packet_is = p';
      words_are = subst (λ n. HaveWords s.words (first_word layout link) n (area packet)) all
          (subst (λ q. HaveWords s.words (first_word layout link) e.put (area q)) same puts.words_are);
    } in (
      changed_view (sending_end link) after_turn_store me.0,
      keeps,
      tt,
      is_linked_inr layout s link k id me (changed_view (sending_end link) after_turn_store me.0)
          (end_after layout s r id (sending_end link) after_turn_store me.0 e us here at_x (length-set s.words link k)
          (sender_at layout r.script us link (after_turn_store e) record { turn = inr (now_next, refl); puts = λ c. absurd cc })
          (turn_store_elsewhere layout h r.script r.script_fits s.words link k lo (sending_end link)
          (λ g ne. absurd (ne refl))
          (λ g _ t. inr (receiver_then s link k g e.next turn now k_is t)))
          (turn_store_unused layout s r link k is)
          (full r lo now whole)),
      refl,
    )
  where
    receiver_then : (s : TableState) (link k : ℕ) (g : End) (n : ℕ) → slice_index s.words link ≡ 2 * n → slice_index (set s.words link k) link ≡ k
        → k ≡ 2 * n + 1 → ReceiverFits s.words link g → slice_index (set s.words link k) link ≡ 2 * g.next + 1
    receiver_then s link k g n turn now k_is t = ⊎_elim
        (λ (u : (slice_index s.words link ≡ 2 * g.next) × (g.busy ≡ false)). let a = u.0 in omega arith) (λ u. absurd (omega arith)) t

    full : (r : IsLinked layout s) → link < turn_count layout → slice_index (set s.words link k) link ≡ k → HavePacket layout r.script s.words link e.next
        → (m n : ℕ) → m < turn_count layout → slice_index (set s.words link k) m ≡ 2 * n + 1 → HavePacket layout r.script (set s.words link k) m n
    full r lo now whole m n m_lo odd = dite (ℕ_discrete m link)
        (λ q.
        let there : slice_index (set s.words link k) link ≡ 2 * n + 1 = subst (λ z. slice_index (set s.words link k) z ≡ 2 * n + 1) q odd in
        let same_n : e.next ≡ n = omega arith in
        subst (λ z. HavePacket layout r.script (set s.words link k) z n) (sym q)
        (subst (HavePacket layout r.script (set s.words link k) link) same_n
        (packet_elsewhere layout r.script r.script_fits s.words (set s.words link k) link e.next is (turn_store_data layout h s.words link k link lo lo) whole)))
        (λ other.
        let old : slice_index s.words m ≡ 2 * n + 1 = sym (get_or-set_other s.words link m k 0 other) ∙ odd in
        packet_elsewhere layout r.script r.script_fits s.words (set s.words link k) m n (odd_is_link layout s r m m_lo n old)
        (turn_store_data layout h s.words link k m lo m_lo) (r.full m n m_lo old))

pub clear_store_keeps : (layout : Layout) (slots id link k : ℕ) (me : SeatState) (e : End) → IsLayout layout → IsSeat me.0
    → is_link layout.ranks link ≡ true → end_in me.0.ends (receiving_end link) ≡ Some e → e.busy ≡ true → k ≡ 2 * e.next + 2
    → Allows (FollowsRule layout) slots id me link (λ _. k) (λ _. ReceiverStores (step slots link k 0 none) me k)
clear_store_keeps layout slots id link k me e h seat is at_x b k_is s rule _ here _ =
    let r = in_use layout s id me.0 rule here seat in
    let v = r.each id me.0 here in
    let us = set s.words link k in
    let f = (v.ends (receiving_end link) e at_x).receiver link refl in
    let lo = link_below layout.ranks link is in
    let turn : slice_index s.words link ≡ 2 * e.next + 1 = busy_receiver s.words link e b f in
    let width = r.length_is in
    let inside : link < length s.words = let d = turn_is_a_word layout h link lo in omega arith in
    let now : slice_index us link ≡ k = get_or-set_same s.words link k 0 inside in
    let now_next : slice_index us link ≡ 2 * (e.next + 1) = omega arith in (
      changed_view (receiving_end link) after_turn_store me.0,
      keeps,
      tt,
      is_linked_inr layout s link k id me (changed_view (receiving_end link) after_turn_store me.0)
          (end_after layout s r id (receiving_end link) after_turn_store me.0 e us here at_x (length-set s.words link k)
          (receiver_at layout r.script us link (after_turn_store e) (inl (now_next, refl)))
          (turn_store_elsewhere layout h r.script r.script_fits s.words link k lo (receiving_end link)
          (λ g _ t. sender_then r lo turn now g t)
          (λ g ne. absurd (ne refl)))
          (turn_store_unused layout s r link k is)
          (full r lo now)),
      refl,
    )
  where
    sender_then : (r : IsLinked layout s) → link < turn_count layout → slice_index s.words link ≡ 2 * e.next + 1 → slice_index (set s.words link k) link ≡ k
        → (g : End) → SenderFits layout r.script s.words link g → SenderFits layout r.script (set s.words link k) link g
    sender_then r lo turn now g t = record {
      turn = inl (⊎_elim (λ u. absurd (omega arith))
          (λ (u : (slice_index s.words link + 1 ≡ 2 * g.next) × (g.busy ≡ false)). let a = u.0 in omega arith) t.turn);
      puts = λ c. puts_elsewhere layout r.script r.script_fits s.words (set s.words link k) link g is
          (turn_store_data layout h s.words link k link lo lo) (t.puts c);
    }

    full : (r : IsLinked layout s) → link < turn_count layout → slice_index (set s.words link k) link ≡ k
        → (m n : ℕ) → m < turn_count layout → slice_index (set s.words link k) m ≡ 2 * n + 1 → HavePacket layout r.script (set s.words link k) m n
    full r lo now m n m_lo odd = dite (ℕ_discrete m link)
        (λ q.
        let there : slice_index (set s.words link k) link ≡ 2 * n + 1 = subst (λ z. slice_index (set s.words link k) z ≡ 2 * n + 1) q odd in
        absurd (omega arith))
        (λ other.
        let old : slice_index s.words m ≡ 2 * n + 1 = sym (get_or-set_other s.words link m k 0 other) ∙ odd in
        packet_elsewhere layout r.script r.script_fits s.words (set s.words link k) m n (odd_is_link layout s r m m_lo n old)
        (turn_store_data layout h s.words link k m lo m_lo) (r.full m n m_lo old))

-- a split
occurrences_in_views : (layout : Layout) (s : TableState) (id : ℕ) (v : View) (rank x : ℕ) → get_elem? s.views id ≡ some v
    → total (λ u. occurrences x u.ends) (set s.views id (kept_view rank v) ++ handed_view rank v ∷ []) ≡ total (λ u. occurrences x u.ends) s.views
occurrences_in_views layout s id v rank x here =
    let t = total_set (λ u. occurrences x u.ends) s.views id v (kept_view rank v) here in
    let p = total_snoc (λ u. occurrences x u.ends) (set s.views id (kept_view rank v)) (handed_view rank v) in
    let q = occurrences_in_restriction (λ y. eqb (rank_of_end v.layout.ranks y) rank) v.ends x in omega arith

pub split_keeps : (layout : Layout) (id : ℕ) (v : View) (rank : ℕ) → IsSeat v
    → Splits (FollowsRule layout) id v (kept_view rank v) (handed_view rank v)
split_keeps layout id v rank seat s rule here =
    let r = in_use layout s id v rule here seat in
    let f = r.each id v here in
    let now = set s.views id (kept_view rank v) in
    let fits_kept : ViewFits layout r.script s.words (kept_view rank v) = record {
      script_is = f.script_is;
      no_end = λ j. let i = seat.in_use in absurd cc;
      ends = each_restriction (EndFits layout r.script s.words) (λ x. not (eqb (rank_of_end v.layout.ranks x) rank)) v.ends f.ends;
    } in
    let fits_handed : ViewFits layout r.script s.words (handed_view rank v) = record {
      script_is = λ _. f.script_is seat.in_use;
      no_end = λ j. absurd cc;
      ends = each_restriction (EndFits layout r.script s.words) (λ x. eqb (rank_of_end v.layout.ranks x) rank) v.ends f.ends;
    } in
    inr record {
      script = r.script;
      script_fits = r.script_fits;
      length_is = r.length_is;
      one_place = λ x. occurrences_in_views layout s id v rank x here ∙ r.one_place x;
      unused = r.unused;
      full = r.full;
      each = λ j u e. ⊎_elim
          (fits_after_set layout r.script s.words s.views id (kept_view rank v) fits_kept (λ i t _ at_i. r.each i t at_i) j u)
          (λ (is : handed_view rank v ≡ u). subst (ViewFits layout r.script s.words) is fits_handed)
          (at_snoc now (handed_view rank v) u j e);
    }

pub join_keeps : (layout : Layout) (id : ℕ) (v : View) (other : ℕ) (w : View) → IsSeat v → IsSeat w
    → Joins (FollowsRule layout) id v other w (joined_view v w) spent_view
join_keeps layout id v other w seat seat_w s rule here apart at_other =
    let r = in_use layout s id v rule here seat in
    let both = joined_view v w in
    let now = set s.views id both in
    let was : get_elem? s.views other ≡ some w = sym (set_else s.views id other both apart) ∙ at_other in
    let f = r.each id v here in
    let g = r.each other w was in
    let fits_both : ViewFits layout r.script s.words both = record {
      script_is = f.script_is;
      no_end = λ j. let i = seat.in_use in absurd cc;
      ends = each_append (EndFits layout r.script s.words) v.ends w.ends f.ends g.ends;
    } in
    let fits_spent : ViewFits layout r.script s.words spent_view = record {
      script_is = λ j. absurd cc;
      no_end = λ _. refl;
      ends = each_of_none (EndFits layout r.script s.words);
    } in
    inr record {
      script = r.script;
      script_fits = r.script_fits;
      length_is = r.length_is;
      one_place = λ x.
          let t = total_set (λ u. occurrences x u.ends) s.views id v both here in
          let p = total_set (λ u. occurrences x u.ends) now other w spent_view at_other in
          let o = r.one_place x in
          let q = occurrences_in_append v.ends w.ends x (end_once layout s r id other x v w apart here was) in omega arith;
      unused = r.unused;
      full = r.full;
      each = fits_after_set layout r.script s.words now other spent_view fits_spent
          (λ j u _ e. fits_after_set layout r.script s.words s.views id both fits_both (λ i t _ at_i. r.each i t at_i) j u e);
    }

-- a new table
zeros_at : (k x : ℕ) → ◌≡◌ {A = ℕ} (get_or (replicate k 0) x 0) 0
zeros_at zero x = refl
zeros_at (suc k) zero = refl
zeros_at (suc k) (suc x) = zeros_at k x

end_is_below : (ranks x : ℕ) → is_end ranks x ≡ true → x < 2 * (ranks * ranks)
end_is_below ranks x is = let half = link_below ranks (x / 2) is in omega arith

pub occurrences_of_all : (ranks x : ℕ) → occurrences x (all_ends ranks) ≡ cond (is_end ranks x) 1 0
occurrences_of_all ranks x = dite (dec_le (x + 1) (2 * (ranks * ranks)))
    (λ lt. occurrences_of_new ranks (2 * (ranks * ranks)) x (omega arith))
    (λ ge. no_new_end ranks (2 * (ranks * ranks)) x (omega arith) ∙ sym (none_there (is_end ranks x) refl ge))
  where
    none_there : (b : Bool) → is_end ranks x ≡ b → ¬ (x + 1 ≤ 2 * (ranks * ranks)) → ◌≡◌ {A = ℕ} (cond b 1 0) 0
    none_there true is ge = let below = end_is_below ranks x is in absurd (omega arith)
    none_there false is ge = refl

idle_fits : (layout : Layout) (script : LinkScript) (words : ℕ) (x : ℕ) → EndFits layout script (replicate words 0) x (idle_end 0 None)
idle_fits layout script words x = record {
  sender = λ link _. record { turn = inl (zeros_at words link); puts = λ b. absurd cc };
  receiver = λ link _. inl (zeros_at words link, refl);
}

new_table_is_linked : (layout : Layout) (packets : ℕ → ℕ → List (List ℕ)) (homes : List (Option? (Unit {0})))
    → FitsLayout layout (script_over layout.ranks packets)
    → IsLinked layout record { words = replicate (word_count layout) 0; homes = homes; views = first_view layout packets ∷ [] }
new_table_is_linked layout packets homes fits = record {
  script = script_over layout.ranks packets;
  script_fits = fits;
  length_is = length-replicate (word_count layout) 0;
  one_place = λ x. let o = occurrences_of_all layout.ranks x in omega arith;
  unused = λ link _ _. zeros_at (word_count layout) link;
  full = λ link n _ odd. let z = zeros_at (word_count layout) link in absurd (omega arith);
  each = one;
}
  where
    fit : ViewFits layout (script_over layout.ranks packets) (replicate (word_count layout) 0) (first_view layout packets)
    fit = record {
      script_is = λ _. refl;
      no_end = λ j. absurd cc;
      ends = λ x e q. subst (EndFits layout (script_over layout.ranks packets) (replicate (word_count layout) 0) x)
          (sym (new_end layout.ranks (2 * (layout.ranks * layout.ranks)) x e q))
          (idle_fits layout (script_over layout.ranks packets) (word_count layout) x);
    }

    one : (j : ℕ) (v : View) → get_elem? (first_view layout packets ∷ []) j ≡ some v
        → ViewFits layout (script_over layout.ranks packets) (replicate (word_count layout) 0) v
    one zero v e = subst (ViewFits layout (script_over layout.ranks packets) (replicate (word_count layout) 0)) (some-injective _ _ e) fit
    one (suc j) v e = absurd (some-ne-none v (sym e))

pub some_turn : (ranks : ℕ) → 0 < ranks → 0 < ranks * ranks
some_turn zero h = absurd (omega arith)
some_turn (suc r) h = omega (arith, suc-mul r (suc r))

pub set_script_keeps : (layout : Layout) (slots id : ℕ) (me : SeatState) (packets : ℕ → ℕ → List (List ℕ)) → IsLayout layout
    → me ≡ (opening_view, []) → FitsLayout layout (script_over layout.ranks packets)
    → Allows (FollowsRule layout) slots id me 0 (λ k. k) (SetsScript layout packets (step slots 0 0 0 none) me)
set_script_keeps layout slots id me packets h opens fits s rule _ here _ =
    (first_view layout packets, keeps, tt, go rule, refl)
  where
    at_opening : get_elem? s.views id ≡ some opening_view
    at_opening = here ∙ ap (λ (m : SeatState). some m.0) opens

    first_of_one : (vs : List View) (i : ℕ) → vs ≡ opening_view ∷ [] → get_elem? vs i ≡ some opening_view
        → set vs i (first_view layout packets) ≡ first_view layout packets ∷ []
    first_of_one vs i e at_i = ap (λ us. set us i (first_view layout packets)) e ∙ place i (ap (λ us. get_elem? us i) (sym e) ∙ at_i)
      where
        place : (j : ℕ) → get_elem? (opening_view ∷ []) j ≡ some opening_view → set (opening_view ∷ []) j (first_view layout packets) ≡ first_view layout packets ∷ []
        place zero q = refl
        place (suc j) q = absurd (some-ne-none opening_view (sym q))

    go : FollowsRule layout s → FollowsRule layout (stepped s 0 (slice_index s.words 0) id me.1 (first_view layout packets) keeps)
    go (inl r) = inr (subst (λ (ws : List ℕ). IsLinked layout record { words = ws; homes = s.homes; views = set s.views id (first_view layout packets) })
        (sym (set-get_or s.words 0 0))
        (subst (λ (vs : List View). IsLinked layout record { words = s.words; homes = s.homes; views = vs }) (sym (first_of_one s.views id r.views at_opening))
        (subst (λ (ws : List ℕ). IsLinked layout record { words = ws; homes = s.homes; views = first_view layout packets ∷ [] }) (sym r.words)
        (new_table_is_linked layout packets s.homes fits))))
    go (inr r) =
        let f = r.each id opening_view at_opening in
        let script_is : [] ≡ r.script = f.script_is refl in
        let count : 0 ≡ turn_count layout = ap (λ (l : LinkScript). length l) script_is ∙ r.script_fits.count in
        let some_word = some_turn layout.ranks h.some_rank in absurd (omega arith)

pub opening_follows : (layout : Layout) → FollowsRule layout (opening (replicate (word_count layout) 0) [] opening_view)
opening_follows layout = inl record { words = refl; views = refl }
