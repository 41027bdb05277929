-- What a call knows of its seat and its links, for the step that it makes.
use Rattle.std.proofs.Common.{◌≡◌, ℕ, zero, suc, ◌+◌, ◌*◌, ◌<◌, ◌≤◌, ◌^◌, not, List, [], ◌∷◌, length, Some, None, Bool, true, false, cond, refl, sym, ap, ◌∙◌, subst, ⊎_elim, arith}
use Rattle.std.specs.Prelude.{slice_get, slice_index, slice_index_or}
use Rattle.std.specs.declared.option.Option.{Option}
use mathlib.Core.Option.{none}
use Rattle.atomic_table.specs.Seated.{TableId}
use Rattle.atomic_table.specs.Table.{step, Allows}
use Rattle.ghost_links.specs.declared.view.End.{End}
use Rattle.ghost_links.specs.declared.view.View.{View}
use Rattle.ghost_links.specs.Layouts.{IsLayout, Layout, first_word, is_link, packet_size, room, word_count}
use Rattle.ghost_links.specs.Scripts.{area, packet_of, script_over}
use Rattle.ghost_links.specs.Ends.{end_in, receiving_end, sending_end}
use Rattle.ghost_links.specs.LinkRule.{FitsLayout, FollowsRule}
use Rattle.ghost_links.specs.Views.{opening_view}
use Rattle.ghost_links.specs.Holdings.{Holding, IsSeat, LinkTable, has_idle, holding, is_idle, next_number, next_of, next_packet}
use Rattle.ghost_links.specs.Steps.{LoadsData, ReceiverLoads, ReceiverStores, SeatState, SenderLoads, SenderStores, SetsScript, StoresData}
use Rattle.ghost_links.specs.Internal.Stages.{FindsTurn, HasDataPlace, HasPut, IsDataWord, NextFits, busy_of, is_busy, is_some, put_of, words_put}
use Rattle.ghost_links.proofs.LayoutLemmas.{data_is_a_word, link_below, turn_is_a_word}
use Rattle.ghost_links.proofs.StepLemmas.{clear_store_keeps, data_load_keeps, data_store_keeps, post_store_keeps, receiver_load_keeps, sender_load_keeps, set_script_keeps, some_turn}

-- the table and the layout of a seat are those of its links
pub same_table : {t u : TableId} (v : View) {h : Holding} {z : LinkTable} {l : Layout} → holding t v ≡ h → h.links ≡ z
    → record { table = u; layout = l } ≡ z → t ≡ u
same_table v e f g = ap (λ k. k.links.table) e ∙ (ap (λ k. k.table) f ∙ sym (ap (λ (k : LinkTable). k.table) g))

pub same_layout : {t u : TableId} (v : View) {h : Holding} {z : LinkTable} {l : Layout} → holding t v ≡ h → h.links ≡ z
    → record { table = u; layout = l } ≡ z → v.layout ≡ l
same_layout v e f g = ap (λ k. k.links.layout) e ∙ (ap (λ k. k.layout) f ∙ sym (ap (λ (k : LinkTable). k.layout) g))

-- Links and a seat, as a call finds them.
pub record Called (key : Layout) (t : TableId) (v : View) (z : LinkTable) (h : Holding) (words : ℕ) : Type 0 where
  pub view_is : holding t v ≡ h
  pub key_is : key ≡ z.layout
  pub layout_holds : IsLayout key
  pub words_are : words ≡ word_count key
  pub seat : IsSeat v
  pub same : v.layout ≡ key

pub called : (v : View) {key l : Layout} {t u : TableId} {z : LinkTable} {h : Holding} {words : ℕ} → holding t v ≡ h → h.links ≡ z
    → record { table = u; layout = l } ≡ z → IsLayout l × (key ≡ l) × (words ≡ word_count l) → IsSeat v → Called key t v z h words
called v {key} {l} {t} {u} {z} {h} {words} e f g inv seat = record {
  view_is = e;
  key_is = inv.1 ∙ ap (λ (k : LinkTable). k.layout) g;
  layout_holds = subst IsLayout (sym inv.1) inv.0;
  words_are = inv.2 ∙ ap word_count (sym inv.1);
  seat = seat;
  same = same_layout v e f g ∙ sym inv.1;
}

pub idle_end_of : (o : Option End) → is_idle o ≡ true → (e : End) × (o ≡ Some e) × (e.busy ≡ false)
idle_end_of None h = absurd cc
idle_end_of (Some e) h = (e, refl, not_busy e.busy h)
  where
    not_busy : (b : Bool) → not b ≡ true → b ≡ false
    not_busy true q = absurd cc
    not_busy false q = refl

pub busy_end_of : (o : Option End) → busy_of o ≡ true → (e : End) × (o ≡ Some e) × (e.busy ≡ true)
busy_end_of None h = absurd cc
busy_end_of (Some e) h = (e, refl, h)

pub putting_end_of : (o : Option End) (n : ℕ) → put_of o ≡ Some n → (e : End) × (o ≡ Some e) × (e.busy ≡ true) × (e.put ≡ n)
putting_end_of None n h = absurd cc
putting_end_of (Some e) n h = go e.busy refl h
  where
    go : (b : Bool) → e.busy ≡ b → cond b (Some e.put) None ≡ Some n → (g : End) × (Some e ≡ Some g) × (g.busy ≡ true) × (g.put ≡ n)
    go true is q = (e, refl, is, cc)
    go false is q = absurd cc

pub some_value : {A : Type 0} (o : Option A) → is_some o ≡ true → (x : A) × (o ≡ Some x)
some_value None h = absurd cc
some_value (Some x) h = (x, refl)

pub same_value : {A : Type 0} {o : Option A} {x y : A} → o ≡ Some x → o ≡ Some y → x ≡ y
same_value e f = cc

-- a place of a list and its item
pub slice_get-below : {A : Type 0} (l : List A) (i : ℕ) (x : A) → slice_get l i ≡ Some x → i < length l
slice_get-below [] i x e = absurd cc
slice_get-below (y ∷ l) zero x e = omega arith
slice_get-below (y ∷ l) (suc i) x e = let h = slice_get-below l i x e in omega arith

pub slice_get-index : (l : List ℕ) (i x : ℕ) → slice_get l i ≡ Some x → x ≡ slice_index l i
slice_get-index [] i x e = absurd cc
slice_get-index (y ∷ l) zero x e = cc
slice_get-index (y ∷ l) (suc i) x e = slice_get-index l i x e

pub slice_get-at : (l : List ℕ) (i : ℕ) → i < length l → slice_get l i ≡ Some (slice_index l i)
slice_get-at [] i h = absurd (omega arith)
slice_get-at (y ∷ l) zero h = refl
slice_get-at (y ∷ l) (suc i) h = slice_get-at l i (omega arith)

pub next_is : (h : Holding) (link x : ℕ) (e : End) (packet : List ℕ) → end_in h.ends x ≡ Some e → next_packet h link x ≡ Some packet
    → packet_of h.script link e.next ≡ Some packet
next_is h link x e packet at_x p = ap (λ o. packet_of h.script link (next_of o)) (sym at_x) ∙ p

pub packet_is : (h : Holding) (link x : ℕ) (e : End) (packet : List ℕ) → end_in h.ends x ≡ Some e → packet_of h.script link e.next ≡ Some packet
    → next_packet h link x ≡ Some packet
packet_is h link x e packet at_x p = ap (λ o. packet_of h.script link (next_of o)) at_x ∙ p

link_is_of_key : {key : Layout} {t : TableId} (v : View) {z : LinkTable} {h : Holding} {words : ℕ} → Called key t v z h words → (link : ℕ)
    → is_link z.layout.ranks link ≡ true → is_link key.ranks link ≡ true
link_is_of_key v c link is = subst (λ (l : Layout). is_link l.ranks link ≡ true) (sym c.key_is) is

pub turn_inside : (v : View) {key : Layout} {t : TableId} {z : LinkTable} {h : Holding} {words : ℕ} → Called key t v z h words → (link : ℕ)
    → is_link z.layout.ranks link ≡ true → link < words
turn_inside v {key} c link is =
    let w = turn_is_a_word key c.layout_holds link (link_below key.ranks link (link_is_of_key v c link is)) in
    let e = c.words_are in omega arith

pub some_word : (v : View) {key : Layout} {t : TableId} {z : LinkTable} {h : Holding} {words : ℕ} → Called key t v z h words → 0 < words
some_word v {key} c =
    let w = turn_is_a_word key c.layout_holds 0 (some_turn key.ranks c.layout_holds.some_rank) in
    let e = c.words_are in omega arith

pub few_words : (v : View) {key : Layout} {t : TableId} {z : LinkTable} {h : Holding} {words : ℕ} → Called key t v z h words → words < 2 ^ 32
few_words v {key} c = let f = c.layout_holds.few_words in let e = c.words_are in omega arith

-- The place of a data word of the next packet lies in its link's data words.
pub place_in_room : (v : View) {key : Layout} {t : TableId} {z : LinkTable} {h : Holding} {words : ℕ} → Called key t v z h words
    → (link x place : ℕ) → is_link z.layout.ranks link ≡ true → HasDataPlace h link x place → place < room key link
place_in_room v {key} {t} {z} {h} c link x place is p =
    let is' : is_link v.layout.ranks link ≡ true = subst (λ (l : Layout). is_link l.ranks link ≡ true) (sym c.same) (link_is_of_key v c link is) in
    let packet : next_packet (holding t v) link x ≡ Some p.packet = subst (λ k. next_packet k link x ≡ Some p.packet) (sym c.view_is) p.packet_is in
    let fits = c.seat.script_fits.fits link (next_number (holding t v) x) p.packet is' packet in
    let less = p.place_is in
    let there : place < room v.layout link = omega arith in subst (λ (l : Layout). place < room l link) c.same there

-- The next packet fits its link.
pub next_fits : (v : View) {key : Layout} {t : TableId} {z : LinkTable} {h : Holding} {words : ℕ} → Called key t v z h words
    → (link x : ℕ) → is_link z.layout.ranks link ≡ true → NextFits z.layout h link x
next_fits v {key} {t} {z} {h} c link x is packet p =
    let same : v.layout ≡ z.layout = c.same ∙ c.key_is in
    let is' : is_link v.layout.ranks link ≡ true = subst (λ (l : Layout). is_link l.ranks link ≡ true) (sym same) is in
    let p' : next_packet (holding t v) link x ≡ Some packet = subst (λ k. next_packet k link x ≡ Some packet) (sym c.view_is) p in
    let fits = c.seat.script_fits.fits link (next_number (holding t v) x) packet is' p' in
    let there : length packet ≤ packet_size v.layout link = omega arith in subst (λ (l : Layout). length packet ≤ packet_size l link) same there

-- A turn word that a receiver finds is far from the greatest word.
pub turn_bound : (v : View) {key : Layout} {t : TableId} {z : LinkTable} {h : Holding} {words : ℕ} → Called key t v z h words
    → (link x word : ℕ) → is_link z.layout.ranks link ≡ true → word < 2 ^ 64 → FindsTurn h link x word → word + 1 < 2 ^ 64
turn_bound v {key} {t} {z} {h} c link x word is below found = ⊎_elim (λ e. omega arith)
    (λ (f : (word ≡ 2 * next_number h x + 1) × (is_some (next_packet h link x) ≡ true)).
    let same : v.layout ≡ z.layout = c.same ∙ c.key_is in
    let is' : is_link v.layout.ranks link ≡ true = subst (λ (l : Layout). is_link l.ranks link ≡ true) (sym same) is in
    let p = some_value (next_packet h link x) f.1 in
    let p' : packet_of v.script link (next_number h x) ≡ Some p.0 = subst (λ (k : Holding). packet_of k.script link (next_number h x) ≡ Some p.0) (sym c.view_is) p.1 in
    let lt = slice_get-below (slice_index_or v.script link []) (next_number h x) p.0 p' in
    let short = c.seat.script_fits.short link is' in
    let e = f.0 in omega arith)
    found

pub data_inside : (v : View) {key : Layout} {t : TableId} {z : LinkTable} {h : Holding} {words : ℕ} → Called key t v z h words
    → (link x place : ℕ) → is_link z.layout.ranks link ≡ true → HasDataPlace h link x place → first_word key link + place < words
data_inside v {key} c link x place is p =
    let w = data_is_a_word key c.layout_holds link place (link_below key.ranks link (link_is_of_key v c link is)) (place_in_room v c link x place is p) in
    let e = c.words_are in omega arith

pub data_place : (h : Holding) (link x place word : ℕ) → IsDataWord h link x place word → HasDataPlace h link x place
data_place h link x place word d = record {
  packet = d.packet;
  packet_is = d.packet_is;
  place_is = slice_get-below (area d.packet) place word d.word_is;
}

pub set_script_at : (key l : Layout) (t u : TableId) (z : LinkTable) (id : ℕ) (me : SeatState) (layout : Layout) (picked packets : ℕ → ℕ → List (List ℕ))
    → IsLayout l × (key ≡ l) × (u.words ≡ word_count l) → record { table = u; layout = l } ≡ z → t ≡ z.table → me ≡ (opening_view, [])
    → FitsLayout z.layout (script_over z.layout.ranks packets) → layout ≡ z.layout → picked ≡ packets
    → (t ≡ u) × (0 < u.words) × Allows (FollowsRule key) u.slots id me 0 (λ k. k) (SetsScript layout picked (step u.slots 0 0 0 none) me)
set_script_at key l t u z id me layout picked packets inv g same opens fits layout_is picked_is =
    let key_is : key ≡ z.layout = inv.1 ∙ ap (λ (k : LinkTable). k.layout) g in
    let holds : IsLayout key = subst IsLayout (sym inv.1) inv.0 in
    let some : 0 < word_count l = turn_is_a_word l inv.0 0 (some_turn l.ranks inv.0.some_rank) in
    let width = inv.2 in
    let keeps_it = set_script_keeps key u.slots id me packets holds opens
    (subst (λ (k : Layout). FitsLayout k (script_over k.ranks packets)) (sym key_is) fits) in (
      same ∙ sym (ap (λ (k : LinkTable). k.table) g),
      omega arith,
      subst (λ (k : Layout). Allows (FollowsRule key) u.slots id me 0 (λ n. n) (SetsScript k picked (step u.slots 0 0 0 none) me)) (key_is ∙ sym layout_is)
          (subst (λ p. Allows (FollowsRule key) u.slots id me 0 (λ n. n) (SetsScript key p (step u.slots 0 0 0 none) me)) (sym picked_is) keeps_it),
    )

module _ (me : SeatState) {key : Layout} {t : TableId} {z : LinkTable} {h : Holding} {words : ℕ} (c : Called key t me.0 z h words)
    (slots id link : ℕ) (is : is_link z.layout.ranks link ≡ true) where
  pub load_to_post_keeps : has_idle h (sending_end link) ≡ true → is_some (next_packet h link (sending_end link)) ≡ true
      → Allows (FollowsRule key) slots id me link (λ k. k) (SenderLoads (step slots link 0 0 none) me)
  load_to_post_keeps has_end has_packet =
      let x = sending_end link in
      let e = idle_end_of (end_in me.0.ends x) (subst (λ k. has_idle k x ≡ true) (sym c.view_is) has_end) in
      let p = some_value (next_packet (holding t me.0) link x) (subst (λ k. is_some (next_packet k link x) ≡ true) (sym c.view_is) has_packet) in
      sender_load_keeps key slots id link me e.0 p.0 c.seat e.1 (next_is (holding t me.0) link x e.0 p.0 e.1 p.1)

  pub load_to_take_keeps : has_idle h (receiving_end link) ≡ true
      → Allows (FollowsRule key) slots id me link (λ k. k) (ReceiverLoads (step slots link 0 0 none) me)
  load_to_take_keeps has_end =
      let x = receiving_end link in
      let e = idle_end_of (end_in me.0.ends x) (subst (λ k. has_idle k x ≡ true) (sym c.view_is) has_end) in
      receiver_load_keeps key slots id link me e.0 c.seat (link_is_of_key me.0 c link is) e.1

  pub store_data_keeps : (place word : ℕ) → words_put h (sending_end link) ≡ Some place → IsDataWord h link (sending_end link) place word
      → Allows (FollowsRule key) slots id me (first_word key link + place) (λ _. word)
      (λ _. StoresData link (step slots (first_word key link + place) word 0 none) me word)
  store_data_keeps place word has_put d =
      let x = sending_end link in
      let e = putting_end_of (end_in me.0.ends x) place (subst (λ k. words_put k x ≡ Some place) (sym c.view_is) has_put) in
      let packet : next_packet (holding t me.0) link x ≡ Some d.packet = subst (λ k. next_packet k link x ≡ Some d.packet) (sym c.view_is) d.packet_is in
      let here = slice_get-below (area d.packet) place word d.word_is in
      let word_is : word ≡ slice_index (area d.packet) place = slice_get-index (area d.packet) place word d.word_is in
      let put : e.0.put ≡ place = e.3 in
      subst (λ j. Allows (FollowsRule key) slots id me (first_word key link + j) (λ _. word)
      (λ _. StoresData link (step slots (first_word key link + j) word 0 none) me word)) put
      (data_store_keeps key slots id link word me e.0 d.packet c.layout_holds c.seat (link_is_of_key me.0 c link is) e.1 e.2
      (next_is (holding t me.0) link x e.0 d.packet e.1 packet) (omega arith) (word_is ∙ ap (slice_index (area d.packet)) (sym put)))

  pub load_data_keeps : (place : ℕ) → is_busy h (receiving_end link) ≡ true → HasDataPlace h link (receiving_end link) place
      → Allows (FollowsRule key) slots id me (first_word key link + place) (λ k. k)
      (LoadsData link place (step slots (first_word key link + place) 0 0 none) me)
  load_data_keeps place has_end p =
      let x = receiving_end link in
      let e = busy_end_of (end_in me.0.ends x) (subst (λ k. is_busy k x ≡ true) (sym c.view_is) has_end) in
      let packet : next_packet (holding t me.0) link x ≡ Some p.packet = subst (λ k. next_packet k link x ≡ Some p.packet) (sym c.view_is) p.packet_is in
      data_load_keeps key slots id link place me e.0 c.layout_holds c.seat (link_is_of_key me.0 c link is) e.1 e.2
      (λ q is_q. subst (λ l. place < length (area l)) (same_value (next_is (holding t me.0) link x e.0 p.packet e.1 packet) is_q) p.place_is)

  -- the word that a data load found
  pub loaded_word : (place found : ℕ) → is_busy h (receiving_end link) ≡ true → HasDataPlace h link (receiving_end link) place
      → ((e : End) (packet : List ℕ) → end_in me.0.ends (receiving_end link) ≡ Some e → packet_of me.0.script link e.next ≡ Some packet
      → found ≡ slice_index (area packet) place) → IsDataWord h link (receiving_end link) place found
  loaded_word place found has_end p told =
      let x = receiving_end link in
      let e = busy_end_of (end_in me.0.ends x) (subst (λ k. is_busy k x ≡ true) (sym c.view_is) has_end) in
      let packet : next_packet (holding t me.0) link x ≡ Some p.packet = subst (λ k. next_packet k link x ≡ Some p.packet) (sym c.view_is) p.packet_is in
      record {
        packet = p.packet;
        packet_is = p.packet_is;
        word_is = slice_get-at (area p.packet) place p.place_is ∙ ap Some (sym (told e.0 p.packet e.1 (next_is (holding t me.0) link x e.0 p.packet e.1 packet)));
      }

  pub store_posted_keeps : (turn : ℕ) → HasPut h link (sending_end link) → turn ≡ 2 * next_number h (sending_end link) + 1
      → Allows (FollowsRule key) slots id me link (λ _. turn) (λ _. SenderStores (step slots link turn 0 none) me turn)
  store_posted_keeps turn d turn_is =
      let x = sending_end link in
      let e = putting_end_of (end_in me.0.ends x) (length (area d.packet)) (subst (λ k. words_put k x ≡ Some (length (area d.packet))) (sym c.view_is) d.put_is) in
      let packet : next_packet (holding t me.0) link x ≡ Some d.packet = subst (λ k. next_packet k link x ≡ Some d.packet) (sym c.view_is) d.packet_is in
      let turn_is' : turn ≡ 2 * next_number (holding t me.0) x + 1 = subst (λ k. turn ≡ 2 * next_number k x + 1) (sym c.view_is) turn_is in
      let turn_is'' : turn ≡ 2 * e.0.next + 1 = turn_is' ∙ ap (λ o. 2 * next_of o + 1) e.1 in
      post_store_keeps key slots id link turn me e.0 d.packet c.layout_holds c.seat (link_is_of_key me.0 c link is) e.1 e.2
      (next_is (holding t me.0) link x e.0 d.packet e.1 packet) e.3 turn_is''

  pub store_taken_keeps : (turn : ℕ) → is_busy h (receiving_end link) ≡ true → turn ≡ 2 * next_number h (receiving_end link) + 2
      → Allows (FollowsRule key) slots id me link (λ _. turn) (λ _. ReceiverStores (step slots link turn 0 none) me turn)
  store_taken_keeps turn has_end turn_is =
      let x = receiving_end link in
      let e = busy_end_of (end_in me.0.ends x) (subst (λ k. is_busy k x ≡ true) (sym c.view_is) has_end) in
      let turn_is' : turn ≡ 2 * next_number (holding t me.0) x + 2 = subst (λ k. turn ≡ 2 * next_number k x + 2) (sym c.view_is) turn_is in
      let turn_is'' : turn ≡ 2 * e.0.next + 2 = turn_is' ∙ ap (λ o. 2 * next_of o + 2) e.1 in
      clear_store_keeps key slots id link turn me e.0 c.layout_holds c.seat (link_is_of_key me.0 c link is) e.1 e.2 turn_is''

  -- the same at an index and a link that are known by equations
  pub store_data_at : (at place word picked : ℕ) → at ≡ first_word key link + place → picked ≡ link → words_put h (sending_end link) ≡ Some place
      → IsDataWord h link (sending_end link) place word
      → Allows (FollowsRule key) slots id me at (λ _. word) (λ _. StoresData picked (step slots at word 0 none) me word)
  store_data_at at place word picked at_is picked_is has_put d =
      subst (λ l. Allows (FollowsRule key) slots id me at (λ _. word) (λ _. StoresData l (step slots at word 0 none) me word)) (sym picked_is)
      (subst (λ i. Allows (FollowsRule key) slots id me i (λ _. word) (λ _. StoresData link (step slots i word 0 none) me word)) (sym at_is)
      (store_data_keeps place word has_put d))

  pub load_data_at : (at place picked picked_place : ℕ) → at ≡ first_word key link + place → picked ≡ link → picked_place ≡ place
      → is_busy h (receiving_end link) ≡ true → HasDataPlace h link (receiving_end link) place
      → Allows (FollowsRule key) slots id me at (λ k. k) (LoadsData picked picked_place (step slots at 0 0 none) me)
  load_data_at at place picked picked_place at_is picked_is place_is has_end p =
      subst (λ l. Allows (FollowsRule key) slots id me at (λ k. k) (LoadsData l picked_place (step slots at 0 0 none) me)) (sym picked_is)
      (subst (λ j. Allows (FollowsRule key) slots id me at (λ k. k) (LoadsData link j (step slots at 0 0 none) me)) (sym place_is)
      (subst (λ i. Allows (FollowsRule key) slots id me i (λ k. k) (LoadsData link place (step slots i 0 0 none) me)) (sym at_is)
      (load_data_keeps place has_end p)))

  pub loaded_word_at : (place found picked picked_place : ℕ) → picked ≡ link → picked_place ≡ place → is_busy h (receiving_end link) ≡ true
      → HasDataPlace h link (receiving_end link) place
      → ((e : End) (packet : List ℕ) → end_in me.0.ends (receiving_end picked) ≡ Some e → packet_of me.0.script picked e.next ≡ Some packet
      → found ≡ slice_index (area packet) picked_place) → IsDataWord h link (receiving_end link) place found
  loaded_word_at place found picked picked_place picked_is place_is has_end p told =
      loaded_word place found has_end p
      (subst (λ j. (e : End) (packet : List ℕ) → end_in me.0.ends (receiving_end link) ≡ Some e → packet_of me.0.script link e.next ≡ Some packet
      → found ≡ slice_index (area packet) j) place_is
      (subst (λ l. (e : End) (packet : List ℕ) → end_in me.0.ends (receiving_end l) ≡ Some e → packet_of me.0.script l e.next ≡ Some packet
      → found ≡ slice_index (area packet) picked_place) picked_is told))
