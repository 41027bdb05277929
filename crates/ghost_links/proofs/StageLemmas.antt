-- What the steps of a post or a take make of a seat, one after the other.
use Rattle.std.proofs.Common.{◌≡◌, ◌≢◌, ◌⊎◌, ℕ, suc, ◌+◌, ◌-◌, ◌*◌, ◌%◌, ◌<◌, ◌≤◌, List, [], ◌∷◌, ◌++◌, length, set, take, Some, true, false, cond, eq-eqb, ne_eqb, refl, sym, ap, ap₂, ◌∙◌, subst, ⊎_elim, arith, length-set}
use Rattle.std.specs.Prelude.{slice_get, slice_index, replicate}
use Rattle.std.specs.declared.option.Option.{Option}
use Rattle.std.proofs.lemmas.List.{length-take, length-append, length-replicate, take_more_set}
use Rattle.std.proofs.Math.Seq.{take-length, take-suc}
use Rattle.ghost_links.specs.declared.view.End.{End}
use Rattle.ghost_links.specs.declared.links.PostAnswer.TheVariants.{Posted, NotYet as PostNotYet}
use Rattle.ghost_links.specs.declared.links.TakeAnswer.TheVariants.{Taken, NotYet as TakeNotYet}
use Rattle.ghost_links.specs.Layouts.{Layout, packet_size}
use Rattle.ghost_links.specs.Scripts.{LinkScript, area, packet_of}
use Rattle.ghost_links.specs.Ends.{EndMap, busy_end, with_change, end_in, idle_end}
use Rattle.ghost_links.specs.Packets.{PacketWords, resized_words}
use Rattle.ghost_links.specs.Views.{after_turn_store, is_even, after_data_store, after_receiver_load, after_sender_load}
use Rattle.ghost_links.specs.Holdings.{Holding, LinkTable, Posts, Takes, after_steps, has_idle, next_number, next_of, next_packet}
use Rattle.ghost_links.specs.Internal.Stages.{FindsTurn, HasDataPlace, HasPut, IsDataWord, NextFits, after_loads, after_puts, busy_of, is_busy, is_some, put_of, words_put}
use Rattle.ghost_links.proofs.MapLemmas.{changed_at, changed_same, changed_twice}
use Rattle.ghost_links.proofs.SeatLemmas.{idle_end_of, putting_end_of, slice_get-index, some_value}

-- a holding by its parts
seat_of : LinkTable → LinkScript → EndMap → ℕ → Holding
seat_of links script ends steps = record { links = links; script = script; ends = ends; steps = steps }

-- steps that change one end, after such steps
pub steps_twice : (x n m : ℕ) (f g : End → End) (h j k : Holding) → j ≡ after_steps x f n h → k ≡ after_steps x g m j
    → k ≡ after_steps x (λ e. g (f e)) (n + m) h
steps_twice x n m f g h j k a b =
    b ∙ ap (after_steps x g m) a
    ∙ ap (λ l. record { links = h.links; script = h.script; ends = l; steps = h.steps + n + m }) (changed_twice x f g h.ends)
    ∙ ap (λ i. record { links = h.links; script = h.script; ends = with_change x (λ e. g (f e)) h.ends; steps = i }) sums where
      sums : h.steps + n + m ≡ h.steps + (n + m)
      sums = omega arith

-- two changes that do the same to the end that is there
pub steps_same : (x n m : ℕ) (f g : End → End) (h k : Holding) (e : End) → end_in h.ends x ≡ Some e → f e ≡ g e → n ≡ m
    → k ≡ after_steps x f n h → k ≡ after_steps x g m h
steps_same x n m f g h k e at_x same count a =
    a ∙ ap (λ l. record { links = h.links; script = h.script; ends = l; steps = h.steps + n }) (changed_same x f g h.ends e at_x same)
    ∙ ap (λ i. record { links = h.links; script = h.script; ends = with_change x g h.ends; steps = h.steps + i }) count

pub end_after_steps : (x n : ℕ) (f : End → End) (h k : Holding) (e : End) → end_in h.ends x ≡ Some e → k ≡ after_steps x f n h
    → end_in k.ends x ≡ Some (f e)
end_after_steps x n f h k e at_x a = ap (λ (z : Holding). end_in z.ends x) a ∙ changed_at x f h.ends e at_x

pub links_after_steps : (x n : ℕ) (f : End → End) (h k : Holding) (z : LinkTable) → h.links ≡ z → k ≡ after_steps x f n h → k.links ≡ z
links_after_steps x n f h k z e a = ap (λ k. k.links) a ∙ e

pub packet_after_steps : (link x n : ℕ) (f : End → End) (h k : Holding) (e : End) → end_in h.ends x ≡ Some e → (f e).next ≡ e.next
    → k ≡ after_steps x f n h → next_packet k link x ≡ next_packet h link x
packet_after_steps link x n f h k e at_x same a =
    ap (λ (z : Holding). packet_of z.script link (next_of (end_in z.ends x))) a
    ∙ ap (λ o. packet_of h.script link (next_of o)) (changed_at x f h.ends e at_x)
    ∙ ap (packet_of h.script link) same
    ∙ sym (ap (λ o. packet_of h.script link (next_of o)) at_x)

-- data stores
pub first_put : (x : ℕ) (h k : Holding) → words_put h x ≡ Some 0 → k ≡ after_steps x after_data_store 1 h → k ≡ after_puts x 1 h
first_put x h k none_put a =
    let e = putting_end_of (end_in h.ends x) 0 none_put in
    let zero_put : e.0.put ≡ 0 = e.3 in
    steps_same x 1 1 after_data_store (λ g. busy_end g.next 1 g.last) h k e.0 e.1 (ap (λ n. busy_end e.0.next (n + 1) e.0.last) zero_put) refl a

pub more_puts : (x n : ℕ) (h j k : Holding) → j ≡ after_puts x n h → k ≡ after_steps x after_data_store 1 j → k ≡ after_puts x (n + 1) h
more_puts x n h j k a b = steps_twice x n 1 (λ e. busy_end e.next n e.last) after_data_store h j k a b

pub put_after_puts : (x n : ℕ) (h j : Holding) → words_put h x ≡ Some 0 → j ≡ after_puts x n h → words_put j x ≡ Some n
put_after_puts x n h j none_put a =
    let e = putting_end_of (end_in h.ends x) 0 none_put in ap put_of (end_after_steps x n (λ g. busy_end g.next n g.last) h j e.0 e.1 a)

pub packet_after_puts : (link x n : ℕ) (h j : Holding) → words_put h x ≡ Some 0 → j ≡ after_puts x n h → next_packet j link x ≡ next_packet h link x
packet_after_puts link x n h j none_put a =
    let e = putting_end_of (end_in h.ends x) 0 none_put in packet_after_steps link x n (λ g. busy_end g.next n g.last) h j e.0 e.1 refl a

pub word_after_puts : (link x i word : ℕ) (packet : List ℕ) (h j : Holding) → words_put h x ≡ Some 0 → next_packet h link x ≡ Some packet
    → j ≡ after_puts x (i + 1) h → slice_get packet i ≡ Some word → IsDataWord j link x (i + 1) word
word_after_puts link x i word packet h j none_put p a w = record {
  packet = packet;
  packet_is = packet_after_puts link x (i + 1) h j none_put a ∙ p;
  word_is = let next : i + 1 ≡ suc i = omega arith in ap (slice_get (area packet)) next ∙ w;
}

-- a post that is not possible yet, and one that is
pub not_posted : (x word : ℕ) (packet : List ℕ) (h k : Holding) → (word ≡ 2 * next_number h x) ⊎ (word + 1 ≡ 2 * next_number h x) → word % 2 ≡ 1
    → k ≡ after_steps x (after_sender_load word) 1 h → Posts x packet (PostNotYet word) h k
not_posted x word packet h k found odd a = (
  odd,
  ⊎_elim (λ e. absurd (omega arith)) (λ e. e) found,
  a ∙ ap (λ b. after_steps x (λ e. cond b (busy_end e.next 0 (Some word)) (idle_end e.next (Some word))) 1 h) (not_even word odd),
)
  where
    not_even : (n : ℕ) → n % 2 ≡ 1 → is_even n ≡ false
    not_even n o = ne_eqb (n % 2) 0 (omega arith)

even_of_not_odd : (word : ℕ) → word % 2 ≢ 1 → is_even word ≡ true
even_of_not_odd word h = let rest : word % 2 ≡ 0 = omega arith in eq-eqb (word % 2) 0 rest

-- the stage of a seat after the load of a turn word that allows the post
record Ready (x link word : ℕ) (packet : List ℕ) (h k : Holding) : Type 0 where
  e : End
  end_is : end_in h.ends x ≡ Some e
  word_is : word ≡ 2 * e.next
  ready : k ≡ after_steps x (λ g. busy_end g.next 0 (Some word)) 1 h

ready_to_post : (x link word : ℕ) (packet : List ℕ) (h k : Holding) → has_idle h x ≡ true → (word ≡ 2 * next_number h x) ⊎ (word + 1 ≡ 2 * next_number h x)
    → word % 2 ≢ 1 → k ≡ after_steps x (after_sender_load word) 1 h → Ready x link word packet h k
ready_to_post x link word packet h k has_end found even a =
    let e = idle_end_of (end_in h.ends x) has_end in
    let word_is : word ≡ 2 * next_number h x = ⊎_elim (λ t. t) (λ t. absurd (omega arith)) found in
    record {
      e = e.0;
      end_is = e.1;
      word_is = word_is ∙ ap (λ o. 2 * next_of o) e.1;
      ready = a ∙ ap (λ b. after_steps x (λ g. cond b (busy_end g.next 0 (Some word)) (idle_end g.next (Some word))) 1 h) (even_of_not_odd word even);
    }

pub put_before_post : (x link word : ℕ) (packet : List ℕ) (h k : Holding) → has_idle h x ≡ true → (word ≡ 2 * next_number h x) ⊎ (word + 1 ≡ 2 * next_number h x)
    → word % 2 ≢ 1 → k ≡ after_steps x (after_sender_load word) 1 h → words_put k x ≡ Some 0
put_before_post x link word packet h k has_end found even a =
    let r = ready_to_post x link word packet h k has_end found even a in
    ap put_of (end_after_steps x 1 (λ g. busy_end g.next 0 (Some word)) h k r.e r.end_is r.ready)

pub packet_before_post : (x link word : ℕ) (packet : List ℕ) (h k : Holding) → has_idle h x ≡ true → (word ≡ 2 * next_number h x) ⊎ (word + 1 ≡ 2 * next_number h x)
    → word % 2 ≢ 1 → k ≡ after_steps x (after_sender_load word) 1 h → next_packet k link x ≡ next_packet h link x
packet_before_post x link word packet h k has_end found even a =
    let r = ready_to_post x link word packet h k has_end found even a in
    packet_after_steps link x 1 (λ g. busy_end g.next 0 (Some word)) h k r.e r.end_is refl r.ready

pub has_put_all : (link x : ℕ) (packet : List ℕ) (h j : Holding) → words_put h x ≡ Some 0 → next_packet h link x ≡ Some packet
    → j ≡ after_puts x (length packet + 1) h → HasPut j link x
has_put_all link x packet h j none_put p a = record {
  packet = packet;
  packet_is = packet_after_puts link x (length packet + 1) h j none_put a ∙ p;
  put_is = put_after_puts x (length packet + 1) h j none_put a ∙ ap Some (omega arith);
}

pub turn_to_post : (x link word : ℕ) (packet : List ℕ) (h k j : Holding) → has_idle h x ≡ true
    → (word ≡ 2 * next_number h x) ⊎ (word + 1 ≡ 2 * next_number h x) → word % 2 ≢ 1 → k ≡ after_steps x (after_sender_load word) 1 h
    → j ≡ after_puts x (length packet + 1) k → word + 1 ≡ 2 * next_number j x + 1
turn_to_post x link word packet h k j has_end found even a b =
    let r = ready_to_post x link word packet h k has_end found even a in
    let k_end = end_after_steps x 1 (λ g. busy_end g.next 0 (Some word)) h k r.e r.end_is r.ready in
    let j_end = end_after_steps x (length packet + 1) (λ g. busy_end g.next (length packet + 1) g.last) k j (busy_end r.e.next 0 (Some word)) k_end b in
    let next : next_number j x ≡ r.e.next = ap next_of j_end in
    let is = r.word_is in omega arith

pub all_posted : (x link word : ℕ) (packet : List ℕ) (h k j i : Holding) → has_idle h x ≡ true
    → (word ≡ 2 * next_number h x) ⊎ (word + 1 ≡ 2 * next_number h x) → word % 2 ≢ 1 → k ≡ after_steps x (after_sender_load word) 1 h
    → j ≡ after_puts x (length packet + 1) k → i ≡ after_steps x after_turn_store 1 j → Posts x packet Posted h i
all_posted x link word packet h k j i has_end found even a b c =
    let r = ready_to_post x link word packet h k has_end found even a in
    let n = length packet + 1 in
    let to_j = steps_twice x 1 n (λ g. busy_end g.next 0 (Some word)) (λ g. busy_end g.next n g.last) h k j r.ready b in
    let to_i = steps_twice x (1 + n) 1 (λ g. busy_end g.next n (Some word)) after_turn_store h j i to_j c in
    let count : 1 + n + 1 ≡ length packet + 3 = omega arith in
    steps_same x (1 + n + 1) (length packet + 3) (λ g. idle_end (g.next + 1) (Some word)) (λ g. idle_end (g.next + 1) (Some (2 * g.next))) h i r.e r.end_is
    (ap (λ w. idle_end (r.e.next + 1) (Some w)) r.word_is) count to_i

-- data loads
pub loads_twice : (n m : ℕ) (h j k : Holding) → j ≡ after_loads n h → k ≡ after_loads m j → k ≡ after_loads (n + m) h
loads_twice n m h j k a b =
    b ∙ ap (after_loads m) a ∙ ap (λ i. record { links = h.links; script = h.script; ends = h.ends; steps = i }) sums where
      sums : h.steps + n + m ≡ h.steps + (n + m)
      sums = omega arith

pub busy_after_loads : (x n : ℕ) (h k : Holding) → is_busy h x ≡ true → k ≡ after_loads n h → is_busy k x ≡ true
busy_after_loads x n h k b a = ap (λ (z : Holding). is_busy z x) a ∙ b

pub packet_after_loads : (link x n : ℕ) (h k : Holding) → k ≡ after_loads n h → next_packet k link x ≡ next_packet h link x
packet_after_loads link x n h k a = ap (λ (z : Holding). next_packet z link x) a

pub first_place : (link x : ℕ) (h : Holding) → is_some (next_packet h link x) ≡ true → HasDataPlace h link x 0
first_place link x h has =
    let p = some_value (next_packet h link x) has in record { packet = p.0; packet_is = p.1; place_is = omega arith }

-- What a receiver has loaded: the number of words, and the first i words.
pub record Loaded (link x i : ℕ) (h : Holding) (size : ℕ) (into : PacketWords) : Type 0 where
  pub packet : List ℕ
  pub packet_is : next_packet h link x ≡ Some packet
  pub length_is : length into.words ≡ length packet
  pub words_are : take i into.words ≡ take i packet
  pub size_is : into.size ≡ size

same_list : {o : Option (List ℕ)} {p q : List ℕ} → o ≡ Some p → o ≡ Some q → p ≡ q
same_list e f = cc

-- the first data word is the number of words
pub length_of_first : (link x word : ℕ) (h : Holding) (packet : List ℕ) → next_packet h link x ≡ Some packet → IsDataWord h link x 0 word → word ≡ length packet
length_of_first link x word h packet p d =
    let same : d.packet ≡ packet = same_list d.packet_is p in
    slice_get-index (area d.packet) 0 word d.word_is ∙ ap (λ (l : List ℕ). length l) same

pub length_fits : (link x word size : ℕ) (layout : Layout) (h : Holding) → IsDataWord h link x 0 word → NextFits layout h link x → packet_size layout link ≤ size
    → word ≤ size
length_fits link x word size layout h d fits le =
    let is = length_of_first link x word h d.packet d.packet_is d in
    let small = fits d.packet d.packet_is in omega arith

pub length_resized : (n : ℕ) (l : List ℕ) → length (resized_words n l) ≡ n
length_resized n l =
    let a = length-append (take n l) (replicate (n - length l) 0) in
    let b = length-take n l in
    let c : length (replicate {A = ℕ} (n - length l) 0) ≡ n - length l = length-replicate (n - length l) 0 in omega arith

pub none_loaded : (link x word size : ℕ) (h : Holding) (old new : PacketWords) → IsDataWord h link x 0 word → old.size ≡ size
    → new ≡ record old { words = resized_words word old.words } → Loaded link x 0 h size new
none_loaded link x word size h old new d s e =
    let is = length_of_first link x word h d.packet d.packet_is d in
    record {
      packet = d.packet;
      packet_is = d.packet_is;
      length_is = ap (λ (p : PacketWords). length p.words) e ∙ (length_resized word old.words ∙ is);
      words_are = refl;
      size_is = ap (λ (p : PacketWords). p.size) e ∙ s;
    }

pub place_to_load : (link x i size n : ℕ) (h k : Holding) (into : PacketWords) → Loaded link x i h size into → i < length into.words → k ≡ after_loads n h
    → HasDataPlace k link x (i + 1)
place_to_load link x i size n h k into l lt a =
    let same = l.length_is in
    record { packet = l.packet; packet_is = packet_after_loads link x n h k a ∙ l.packet_is; place_is = omega arith }

pub one_more_loaded : (link x i word size n : ℕ) (h k : Holding) (old new : PacketWords) → Loaded link x i h size old → i < length old.words
    → k ≡ after_loads n h → IsDataWord k link x (i + 1) word → new ≡ record old { words = set old.words i word } → Loaded link x (i + 1) h size new
one_more_loaded link x i word size n h k old new l lt a d e =
    let same : d.packet ≡ l.packet = same_list d.packet_is (packet_after_loads link x n h k a ∙ l.packet_is) in
    let next : i + 1 ≡ suc i = omega arith in
    let there : slice_get (area l.packet) (suc i) ≡ Some word =
    subst (λ (p : List ℕ). slice_get (area p) (suc i) ≡ Some word) same (subst (λ j. slice_get (area d.packet) j ≡ Some word) next d.word_is) in
    let word_is : word ≡ slice_index l.packet i = slice_get-index l.packet i word there in
    let inside : i < length l.packet = let w = l.length_is in omega arith in
    record {
      packet = l.packet;
      packet_is = l.packet_is;
      length_is = ap (λ (p : PacketWords). length p.words) e ∙ (length-set old.words i word ∙ l.length_is);
      words_are = ap (λ (p : PacketWords). take (i + 1) p.words) e
          ∙ (take_more_set old.words i word lt
          ∙ (ap₂ (λ (xs : List ℕ) (w : ℕ). xs ++ w ∷ []) l.words_are word_is
          ∙ (sym (take-suc l.packet i 0 inside) ∙ ap (λ j. take j l.packet) (sym next))));
      size_is = ap (λ (p : PacketWords). p.size) e ∙ l.size_is;
    }

pub length_after_set : (i word end : ℕ) (old new : PacketWords) → end ≡ length old.words → new ≡ record old { words = set old.words i word }
    → end ≡ length new.words
length_after_set i word end old new e a = e ∙ (sym (length-set old.words i word) ∙ sym (ap (λ (p : PacketWords). length p.words) a))

pub all_loaded : (link x i size : ℕ) (h : Holding) (into : PacketWords) → Loaded link x i h size into → i ≡ length into.words
    → next_packet h link x ≡ Some into.words
all_loaded link x i size h into l end =
    let a : take i into.words ≡ into.words = ap (λ j. take j into.words) end ∙ take-length into.words in
    let b : take i l.packet ≡ l.packet = ap (λ j. take j l.packet) (end ∙ l.length_is) ∙ take-length l.packet in
    l.packet_is ∙ ap Some (sym b ∙ (sym l.words_are ∙ a))

-- a take that is not possible yet, and one that is
pub not_taken : (link x word : ℕ) (h k : Holding) (into : PacketWords) → FindsTurn h link x word → word % 2 ≡ 0
    → k ≡ after_steps x (after_receiver_load word) 1 h → Takes link x (TakeNotYet word) h k into into
not_taken link x word h k into found even a = (
  even,
  ⊎_elim (λ e. e) (λ (f : (word ≡ 2 * next_number h x + 1) × (is_some (next_packet h link x) ≡ true)). let e = f.0 in absurd (omega arith)) found,
  a ∙ ap (λ b. after_steps x (λ e. cond b (idle_end e.next (Some word)) (busy_end e.next 0 (Some word))) 1 h) (eq-eqb (word % 2) 0 even),
  refl,
)

-- the stage of a seat after the load of a turn word that allows the take
record ReadyToTake (link x word : ℕ) (h k : Holding) : Type 0 where
  e : End
  end_is : end_in h.ends x ≡ Some e
  word_is : word ≡ 2 * e.next + 1
  has_packet : is_some (next_packet h link x) ≡ true
  ready : k ≡ after_steps x (λ g. busy_end g.next 0 (Some word)) 1 h

ready_to_take : (link x word : ℕ) (h k : Holding) → has_idle h x ≡ true → FindsTurn h link x word → word % 2 ≢ 0
    → k ≡ after_steps x (after_receiver_load word) 1 h → ReadyToTake link x word h k
ready_to_take link x word h k has_end found odd a =
    let e = idle_end_of (end_in h.ends x) has_end in
    let f : (word ≡ 2 * next_number h x + 1) × (is_some (next_packet h link x) ≡ true) = ⊎_elim (λ t. absurd (omega arith)) (λ t. t) found in
    record {
      e = e.0;
      end_is = e.1;
      word_is = f.0 ∙ ap (λ o. 2 * next_of o + 1) e.1;
      has_packet = f.1;
      ready = a ∙ ap (λ b. after_steps x (λ g. cond b (idle_end g.next (Some word)) (busy_end g.next 0 (Some word))) 1 h) (ne_eqb (word % 2) 0 odd);
    }

pub busy_before_take : (link x word : ℕ) (h k : Holding) → has_idle h x ≡ true → FindsTurn h link x word → word % 2 ≢ 0
    → k ≡ after_steps x (after_receiver_load word) 1 h → is_busy k x ≡ true
busy_before_take link x word h k has_end found odd a =
    let r = ready_to_take link x word h k has_end found odd a in
    ap busy_of (end_after_steps x 1 (λ g. busy_end g.next 0 (Some word)) h k r.e r.end_is r.ready)

pub packet_before_take : (link x word : ℕ) (h k : Holding) → has_idle h x ≡ true → FindsTurn h link x word → word % 2 ≢ 0
    → k ≡ after_steps x (after_receiver_load word) 1 h → next_packet k link x ≡ next_packet h link x
packet_before_take link x word h k has_end found odd a =
    let r = ready_to_take link x word h k has_end found odd a in
    packet_after_steps link x 1 (λ g. busy_end g.next 0 (Some word)) h k r.e r.end_is refl r.ready

pub has_packet_before_take : (link x word : ℕ) (h k : Holding) → has_idle h x ≡ true → FindsTurn h link x word → word % 2 ≢ 0
    → k ≡ after_steps x (after_receiver_load word) 1 h → is_some (next_packet k link x) ≡ true
has_packet_before_take link x word h k has_end found odd a =
    let r = ready_to_take link x word h k has_end found odd a in
    ap is_some (packet_before_take link x word h k has_end found odd a) ∙ r.has_packet

pub turn_to_take : (link x word n : ℕ) (h k j : Holding) → has_idle h x ≡ true → FindsTurn h link x word → word % 2 ≢ 0
    → k ≡ after_steps x (after_receiver_load word) 1 h → j ≡ after_loads n k → word + 1 ≡ 2 * next_number j x + 2
turn_to_take link x word n h k j has_end found odd a b =
    let r = ready_to_take link x word h k has_end found odd a in
    let k_end = end_after_steps x 1 (λ g. busy_end g.next 0 (Some word)) h k r.e r.end_is r.ready in
    let next : next_number j x ≡ r.e.next = ap (λ (z : Holding). next_number z x) b ∙ ap next_of k_end in
    let is = r.word_is in omega arith

pub all_taken : (link x word : ℕ) (h k j i : Holding) (old new : PacketWords) → has_idle h x ≡ true → FindsTurn h link x word → word % 2 ≢ 0
    → k ≡ after_steps x (after_receiver_load word) 1 h → next_packet k link x ≡ Some new.words → new.size ≡ old.size
    → j ≡ after_loads (length new.words + 1) k → i ≡ after_steps x after_turn_store 1 j → Takes link x Taken h i old new
all_taken link x word h k j i old new has_end found odd a p size b c =
    let r = ready_to_take link x word h k has_end found odd a in
    let n = length new.words + 1 in
    let to_j : j ≡ after_steps x (λ g. busy_end g.next 0 (Some word)) (1 + n) h =
    b ∙ ap (after_loads n) r.ready
    ∙ ap (λ s. record { links = h.links; script = h.script; ends = with_change x (λ g. busy_end g.next 0 (Some word)) h.ends; steps = s }) (sums h.steps n) in
    let to_i = steps_twice x (1 + n) 1 (λ g. busy_end g.next 0 (Some word)) after_turn_store h j i to_j c in
    let count : 1 + n + 1 ≡ length new.words + 3 = omega arith in (
      sym (packet_before_take link x word h k has_end found odd a) ∙ p,
      size,
      steps_same x (1 + n + 1) (length new.words + 3) (λ g. idle_end (g.next + 1) (Some word)) (λ g. idle_end (g.next + 1) (Some (2 * g.next + 1))) h i r.e r.end_is
          (ap (λ w. idle_end (r.e.next + 1) (Some w)) r.word_is) count to_i,
    )
  where
    sums : (s m : ℕ) → s + 1 + m ≡ s + (1 + m)
    sums s m = omega arith
