-- The result of workers that are apart does not depend on the order of turns.
use Rattle.std.proofs.Common.{◌≡◌, ◌≢◌, ◌⊎◌, ◌<◌, ℕ, zero, suc, ℤ, false, List, [], ◌∷◌, set, None, Some, refl, sym, ap, ap₂, ◌∙◌, subst, inl, inr, arith}
use Rattle.std.specs.Prelude.{slice_get}
use Rattle.std.specs.declared.option.Option.{Option}
use Rattle.batch_core.specs.declared.acts.Act.{Act}
use Rattle.batch_core.specs.declared.acts.Act.TheVariants.{Read, Load, Fold}
use Rattle.batch_core.specs.Machine.{Worker, Machine, value_at, word, words_after, register_after, step_with, step_of, step, run, words_when_finished, words_when_all_finished, sequential_result, Member, Remains, is_read, FoldsAreLoaded, Apart, Reads, AreFinished, IsFinished}
use Rattle.batch_core.proofs.ActLemmas.{AreFree, list_comm, register_after_list, value_kept}

-- a worker after its first act
abbrev pub after : List ℤ → Worker → Act → List Act → Worker
after ws g a rest = record { register = register_after ws g.register a; acts = rest }

-- the first act of one worker, done early, keeps the result of all
result_after : (ws : List ℤ) (hs : List Worker) (i : ℕ) (g : Worker) (a : Act) (rest : List Act) → slice_get hs i ≡ Some g
    → g.acts ≡ a ∷ rest
    → ((j : ℕ) (h : Worker) (b : Act) → i ≢ j → slice_get hs j ≡ Some h → Member b h.acts → AreFree a b)
    → words_when_all_finished (words_after ws g.register a) (set hs i (after ws g a rest)) ≡ words_when_all_finished ws hs
result_after ws [] i g a rest at is free = absurd cc
result_after ws (h ∷ hs) zero g a rest at is free =
    let same : h ≡ g = cc in
    sym (ap (λ (z : Worker). words_when_all_finished (words_when_finished ws z.register z.acts) hs) same ∙ ap (λ (l : List Act). words_when_all_finished (words_when_finished ws g.register l) hs) is)
result_after ws (h ∷ hs) (suc i) g a rest at is free =
    let first : (b : Act) → Member b h.acts → AreFree a b = λ b m. free 0 h b (λ e. omega arith) refl m in
    let ws' = words_when_finished ws h.register h.acts in
    ap₂ (λ vs p. words_when_all_finished vs (set hs i (record { register = p; acts = rest })))
    (list_comm ws g.register h.register a h.acts first) (sym (register_after_list ws g.register h.register a h.acts first))
    ∙ result_after ws' hs i g a rest at is (λ j k b ne at_j m. free (suc j) k b (λ e. ne (omega arith)) at_j m)

-- the worker at an index after one of them changed
at_changed : (hs : List Worker) (i : ℕ) (w : Worker) (j : ℕ) (h : Worker) → slice_get (set hs i w) j ≡ Some h
    → ((j ≡ i) × (w ≡ h)) ⊎ ((j ≢ i) × (slice_get hs j ≡ Some h))
at_changed [] i w j h e = absurd cc
at_changed (x ∷ xs) zero w zero h e = inl (refl, cc)
at_changed (x ∷ xs) zero w (suc j) h e = inr ((λ q. omega arith), e)
at_changed (x ∷ xs) (suc i) w zero h e = inr ((λ q. omega arith), e)
at_changed (x ∷ xs) (suc i) w (suc j) h e =
    elim (at_changed xs i w j h e) [ inl t ↦ inl (ap suc t.0, t.1) | inr t ↦ inr ((λ q. t.0 (omega arith)), t.1) ]

-- the worker g at i has the first act a
record Turn (m : Machine) (i : ℕ) (g : Worker) (a : Act) (rest : List Act) : Type 0 where
  at_index : slice_get m.workers i ≡ Some g
  first : g.acts ≡ a ∷ rest

turn_remains : (m : Machine) (i : ℕ) (g : Worker) (a : Act) (rest : List Act) → Turn m i g a rest → Remains m i a
turn_remains m i g a rest t = record { worker = g; at_index = t.at_index; member = subst (Member a) (sym t.first) (inl refl) }

-- what remains after a turn remained before it
remained : (m : Machine) (i : ℕ) (g : Worker) (a : Act) (rest : List Act) → Turn m i g a rest
    → (j : ℕ) (b : Act) → Remains (step_with m i g (a ∷ rest)) j b → Remains m j b
remained m i g a rest t j b r = elim (at_changed m.workers i (after m.words g a rest) j r.worker r.at_index) [
  | inl s ↦ record {
    worker = g;
    at_index = subst (λ n. slice_get m.workers n ≡ Some g) (sym s.0) t.at_index;
    member = subst (Member b) (sym t.first) (inr (subst (λ (z : Worker). Member b z.acts) (sym s.1) r.member));
  }
  | inr s ↦ record { worker = r.worker; at_index = s.1; member = r.member }
]

folds_after : (m : Machine) (r : Apart m) (i : ℕ) (g : Worker) (a : Act) (rest : List Act) → Turn m i g a rest
    → FoldsAreLoaded (words_after m.words g.register a) (after m.words g a rest)
folds_after m r i g a rest t k w op v e =
    elim (r.folds i g t.at_index (suc k) w op v (ap (λ (l : List Act). slice_get l (suc k)) t.first ∙ e)) [
      | inl s ↦ loaded k s.0 (omega (arith, s.1)) (ap (λ (l : List Act). slice_get l s.0) (sym t.first) ∙ s.2)
      | inr s ↦ absurd (omega (arith, s.0))
    ]
  where
    loaded : (k j : ℕ) → k ≡ j → slice_get (a ∷ rest) j ≡ Some (Load w)
        → ((j : ℕ) × (k ≡ suc j) × (slice_get rest j ≡ Some (Load w))) ⊎ ((k ≡ 0) × (register_after m.words g.register a ≡ value_at (words_after m.words g.register a) w))
    loaded k zero z l =
        let load : a ≡ Load w = cc in
        inr (z, subst (λ b. register_after m.words g.register b ≡ value_at (words_after m.words g.register b) w) (sym load) refl)
    loaded k (suc j) z l = inl (j, z, l)

member_at : (rest : List Act) (k : ℕ) (a : Act) → slice_get rest k ≡ Some a → Member a rest
member_at [] k a e = absurd cc
member_at (b ∷ bs) zero a e = inl cc
member_at (b ∷ bs) (suc k) a e = inr (member_at bs k a e)

apart_after : (m : Machine) (r : Apart m) (i : ℕ) (g : Worker) (a : Act) (rest : List Act) → Turn m i g a rest
    → Apart (step_with m i g (a ∷ rest))
apart_after m r i g a rest t = record {
  separate = λ j k b c ne x y. r.separate j k b c ne (remained m i g a rest t j b x) (remained m i g a rest t k c y);
  read_only = λ j k b c x y. r.read_only j k b c (remained m i g a rest t j b x) (remained m i g a rest t k c y);
  folds = λ j h e. elim (at_changed m.workers i (after m.words g a rest) j h e) [
    | inl s ↦ subst (FoldsAreLoaded (words_after m.words g.register a)) s.1 (folds_after m r i g a rest t)
    | inr s ↦ λ k w op v f. elim (r.folds j h s.1 k w op v f) [
      | inl p ↦ inl p
      | inr p ↦ inr (
        p.0,
        p.1 ∙ sym (value_kept m.words g.register a w (λ u q.
            r.separate i j a (Fold w op v) (λ z. s.0 (sym z)) (turn_remains m i g a rest t)
            record { worker = h; at_index = s.1; member = member_at h.acts k (Fold w op v) f } u (sym q))),
      )
    ]
  ];
}

-- no act but a Read names the word
abbrev IsReadOnly : Machine → ℕ → Type 0
IsReadOnly m w = (i : ℕ) (b : Act) → Remains m i b → is_read b ≡ false → w ≢ word b

-- what turns keep
record Keeps (m n : Machine) : Type 0 where
  apart : Apart n
  result : sequential_result n ≡ sequential_result m
  value : (w : ℕ) → IsReadOnly m w → IsReadOnly n w × (value_at n.words w ≡ value_at m.words w)

keeps_all : (m : Machine) → Apart m → Keeps m m
keeps_all m r = record { apart = r; result = refl; value = λ w u. (u, refl) }

act_keeps : (m : Machine) (r : Apart m) (i : ℕ) (g : Worker) (a : Act) (rest : List Act) → Turn m i g a rest
    → Keeps m (step_with m i g (a ∷ rest))
act_keeps m r i g a rest t =
    let mine = turn_remains m i g a rest t in record {
      apart = apart_after m r i g a rest t;
      result = result_after m.words m.workers i g a rest t.at_index t.first (λ j h b ne at mem.
          let other : Remains m j b = record { worker = h; at_index = at; member = mem } in
          record { first = r.separate i j a b ne mine other; second = λ e q. r.separate j i b a (λ z. ne (sym z)) other mine e (sym q) });
      value = λ w u. ((λ j b x. u j b (remained m i g a rest t j b x)), value_kept m.words g.register a w (u i a mine));
    }

step_keeps : (m : Machine) (i : ℕ) → Apart m → Keeps m (step m i)
step_keeps m i r = go (slice_get m.workers i) refl
  where
    acts : (g : Worker) (rest : List Act) → slice_get m.workers i ≡ Some g → g.acts ≡ rest → Keeps m (step_with m i g rest)
    acts g [] at is = keeps_all m r
    acts g (a ∷ rest) at is = act_keeps m r i g a rest record { at_index = at; first = is }

    go : (o : Option Worker) → slice_get m.workers i ≡ o → Keeps m (step_of m i o)
    go None e = keeps_all m r
    go (Some g) e = acts g g.acts e refl

run_keeps : (m : Machine) (is : List ℕ) → Apart m → Keeps m (run m is)
run_keeps m [] r = keeps_all m r
run_keeps m (i ∷ is) r =
    let one = step_keeps m i r in
    let more = run_keeps (step m i) is one.apart in record {
      apart = more.apart;
      result = more.result ∙ one.result;
      value = λ w u. let x = one.value w u in let y = more.value w x.0 in (y.0, y.1 ∙ x.1);
    }

nothing_remains : (ws : List ℤ) (hs : List Worker) → AreFinished hs → words_when_all_finished ws hs ≡ ws
nothing_remains ws [] e = refl
nothing_remains ws (h ∷ hs) e = ap (λ (l : List Act). words_when_all_finished (words_when_finished ws h.register l) hs) e.0 ∙ nothing_remains ws hs e.1

pub stays_apart : (m : Machine) (is : List ℕ) → Apart m → Apart (run m is)
stays_apart m is r = (run_keeps m is r).apart

pub keeps_result : (m : Machine) (is : List ℕ) → Apart m → sequential_result (run m is) ≡ sequential_result m
keeps_result m is r = (run_keeps m is r).result

pub keeps_reads : (m : Machine) (is : List ℕ) (w : ℕ) → Apart m → Reads m w → value_at (run m is).words w ≡ value_at m.words w
keeps_reads m is w r by = ((run_keeps m is r).value w (λ j b x. r.read_only by.0 j (Read w) b by.1 x refl)).1

pub ends_with_result : (m : Machine) (is : List ℕ) → Apart m → IsFinished (run m is) → (run m is).words ≡ sequential_result m
ends_with_result m is r o = sym (nothing_remains (run m is).words (run m is).workers o) ∙ keeps_result m is r

-- each word of an act stays in range
pub range_after : (m : Machine) (n : ℕ) (i : ℕ) (g : Worker) (a : Act) (rest : List Act) → slice_get m.workers i ≡ Some g
    → g.acts ≡ a ∷ rest
    → ((j : ℕ) (b : Act) → Remains m j b → word b < n) → (j : ℕ) (b : Act) → Remains (step_with m i g (a ∷ rest)) j b → word b < n
range_after m n i g a rest at is h j b r = h j b (remained m i g a rest record { at_index = at; first = is } j b r)
