-- A turn as the code makes it.
use Rattle.std.proofs.Common.{◌≡◌, ℕ, zero, suc, ◌+◌, ◌<◌, ℤ, List, [], ◌∷◌, length, set, get_or, drop, None, Some, refl, sym, ap, ap₂, ◌∙◌, subst, inl, inr, map, arith, length-set}
use Rattle.std.specs.Prelude.{slice_get, All}
use Rattle.std.specs.declared.option.Option.{Option}
use Rattle.batch_core.specs.declared.acts.Act.{Act}
use Rattle.batch_core.specs.Machine.{Worker, Machine, AreBelow, machine_at_start, worker_at_start, word, words_after, register_after, step_with, HasSizesOf, step_of, step, run, answer, answer_of, answer_with, Member, InRange}
use Rattle.batch_core.specs.declared.acts.Stepped.TheVariants.{Acted, Idle}
use Rattle.batch_core.specs.Internal.Steps.{next_act, worker_after}
use Rattle.batch_core.proofs.ActLemmas.{length_after}
use Rattle.batch_core.proofs.TurnOrderLemmas.{range_after}

pub worker_after_is : (r : ℤ) (l : List Act) → worker_after r l ≡ record { register = r; acts = drop 1 l }
worker_after_is r [] = refl
worker_after_is r (a ∷ rest) = refl

drop_suc : (d : ℕ) (l : List Act) → drop (suc d) l ≡ drop 1 (drop d l)
drop_suc zero l = refl
drop_suc (suc d) [] = refl
drop_suc (suc d) (x ∷ xs) = drop_suc d xs

pub drop_one_more : (d : ℕ) (l now : List Act) → drop d l ≡ now → drop (d + 1) l ≡ drop 1 now
drop_one_more d l now e = let one : d + 1 ≡ suc d = omega arith in ap (λ k. drop k l) one ∙ (drop_suc d l ∙ ap (drop 1) e)

-- the acts of a worker without a next one
none_next : (l : List Act) → next_act l ≡ None → l ≡ []
none_next [] e = refl
none_next (a ∷ rest) e = absurd cc

pub idle_step : (m : Machine) (i : ℕ) (h : Worker) → slice_get m.workers i ≡ Some h → next_act h.acts ≡ None → step m i ≡ m
idle_step m i h at none = ap (step_of m i) at ∙ ap (step_with m i h) (none_next h.acts none)

pub idle_answer : (m : Machine) (i : ℕ) (h : Worker) → slice_get m.workers i ≡ Some h → next_act h.acts ≡ None → answer m i ≡ Idle
idle_answer m i h at none = ap answer_of at ∙ ap answer_with (none_next h.acts none)

some_next : (l : List Act) (a : Act) → next_act l ≡ Some a → l ≡ a ∷ drop 1 l
some_next [] a e = absurd cc
some_next (b ∷ rest) a e = let same : b ≡ a = cc in ap (λ c. c ∷ rest) same

pub acted_answer : (m : Machine) (i : ℕ) (h : Worker) (a : Act) → slice_get m.workers i ≡ Some h → next_act h.acts ≡ Some a
    → answer m i ≡ Acted
acted_answer m i h a at next = ap answer_of at ∙ ap answer_with (some_next h.acts a next)

acted_step : (m : Machine) (i : ℕ) (h : Worker) (a : Act) → slice_get m.workers i ≡ Some h → next_act h.acts ≡ Some a
    → step m i ≡ record { words = words_after m.words h.register a; workers = set m.workers i (worker_after (register_after m.words h.register a) h.acts) }
acted_step m i h a at next =
    ap (step_of m i) at
    ∙ ap (step_with m i h) (some_next h.acts a next)
    ∙ ap (λ w. record { words = words_after m.words h.register a; workers = set m.workers i w })
    (sym (worker_after_is (register_after m.words h.register a) h.acts))

pub next_in_range : (m : Machine) (i : ℕ) (h : Worker) (a : Act) → InRange m → slice_get m.workers i ≡ Some h
    → next_act h.acts ≡ Some a → word a < length m.words
next_in_range m i h a r at e = r i a record { worker = h; at_index = at; member = subst (Member a) (sym (some_next h.acts a e)) (inl refl) }

pub range_kept : (m : Machine) (i : ℕ) → InRange m → InRange (step m i)
range_kept m i r = go (slice_get m.workers i) refl
  where
    acts : (g : Worker) (l : List Act) → slice_get m.workers i ≡ Some g → g.acts ≡ l → InRange (step_with m i g l)
    acts g [] at is = r
    acts g (a ∷ rest) at is = range_after m (length (words_after m.words g.register a)) i g a rest at is
        (λ j b x. subst (λ n. word b < n) (sym (length_after m.words g.register a)) (r j b x))

    go : (o : Option Worker) → slice_get m.workers i ≡ o → InRange (step_of m i o)
    go None e = r
    go (Some g) e = acts g g.acts e refl

pub at_index : (l : List Worker) (i : ℕ) (x : Worker) → i < length l → x ≡ get_or l i x → slice_get l i ≡ Some x
at_index [] i x h e = absurd (omega arith)
at_index (y ∷ ys) zero x h e = ap Some (sym e)
at_index (y ∷ ys) (suc i) x h e = at_index ys i x (omega arith) e

-- The turn from its parts: the worker looked up three times, its register and next act, and the words and the worker afterwards.
pub step_made : (m : Machine) (i : ℕ) (g h k : Worker) (a : Act) (r s : ℤ) (ws : List ℤ) (n : Worker)
    → slice_get m.workers i ≡ Some g → slice_get m.workers i ≡ Some h → slice_get m.workers i ≡ Some k → r ≡ g.register → next_act h.acts ≡ Some a
    → ws ≡ words_after m.words r a → s ≡ register_after m.words r a → n ≡ worker_after s k.acts → record { words = ws; workers = set m.workers i n } ≡ step m i
step_made m i g h k a r s ws n at_g at_h at_k is next words loaded new =
    let gk : g ≡ k = cc in
    let hk : h ≡ k = cc in
    let reg : r ≡ k.register = is ∙ ap (λ w. w.register) gk in
    let made : List ℤ → Worker → Machine = λ vs w. record { words = vs; workers = set m.workers i w } in
    ap₂ made (words ∙ ap (λ q. words_after m.words q a) reg)
    (new ∙ ap (λ q. worker_after q k.acts) (loaded ∙ ap (λ q. register_after m.words q a) reg))
    ∙ sym (acted_step m i k a at_k (ap (λ w. next_act w.acts) (sym hk) ∙ next))

pub sizes_kept : (m : Machine) (i : ℕ) → HasSizesOf m (step m i)
sizes_kept m i = go (slice_get m.workers i)
  where
    acts : (g : Worker) (l : List Act) → HasSizesOf m (step_with m i g l)
    acts g [] = record { words = refl; workers = refl }
    acts g (a ∷ rest) = record {
      words = length_after m.words g.register a;
      workers = length-set m.workers i (record { register = register_after m.words g.register a; acts = rest });
    }

    go : (o : Option Worker) → HasSizesOf m (step_of m i o)
    go None = record { words = refl; workers = refl }
    go (Some g) = acts g g.acts

pub sizes_twice : (m n k : Machine) → HasSizesOf m n → HasSizesOf n k → HasSizesOf m k
sizes_twice m n k a b = record { words = b.words ∙ a.words; workers = b.workers ∙ a.workers }

-- one more turn of a list
pub run_one_more : (m n : Machine) (k i : ℕ) (turns : List ℕ) → run m (drop k turns) ≡ run n turns → slice_get turns k ≡ Some i
    → run (step m i) (drop (k + 1) turns) ≡ run n turns
run_one_more m n k i turns e at = ap (run m) (sym (from k turns at)) ∙ e
  where
    from : (k : ℕ) (l : List ℕ) → slice_get l k ≡ Some i → drop k l ≡ i ∷ drop (k + 1) l
    from k [] at = absurd cc
    from zero (x ∷ xs) at = ap (λ (y : ℕ). y ∷ xs) cc
    from (suc k) (x ∷ xs) at = let one : suc k + 1 ≡ suc (k + 1) = omega arith in from k xs at ∙ ap (λ j. i ∷ drop j (x ∷ xs)) (sym one)

-- the words of the acts at the start
member_below : (n : ℕ) (acts : List Act) → AreBelow n acts → (a : Act) → Member a acts → word a < n
member_below n [] h a m = absurd m
member_below n (b ∷ bs) h a m = elim m [
  | inl e ↦ subst (λ c. word c < n) e (h 0 b (omega arith))
  | inr r ↦ member_below n bs (λ k d lt. h (suc k) d (omega arith)) a r
]

below_at : (n : ℕ) (lists : List (List Act)) → All (AreBelow n) lists → (i : ℕ) (h : Worker)
    → slice_get (map worker_at_start lists) i ≡ Some h
    → AreBelow n h.acts
below_at n [] all i h e = absurd cc
below_at n (l ∷ ls) all zero h e = let same : worker_at_start l ≡ h = cc in subst (λ (w : Worker). AreBelow n w.acts) same (all 0 l (omega arith))
below_at n (l ∷ ls) all (suc i) h e = below_at n ls (λ k d lt. all (suc k) d (omega arith)) i h e

pub lists_in_range : (words : List ℤ) (lists : List (List Act)) → All (AreBelow (length words)) lists
    → InRange (machine_at_start words lists)
lists_in_range words lists all i a r = member_below (length words) r.worker.acts (below_at (length words) lists all i r.worker r.at_index) a r.member
