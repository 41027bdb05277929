-- Two workers with a word each are apart.
use Rattle.std.proofs.Common.{◌≡◌, ℕ, zero, suc, ℤ, pos, false, true≢false, List, [], ◌∷◌, Some, refl, sym, ap, ◌∙◌, subst, inl, inr, arith}
use Rattle.std.specs.Prelude.{slice_get}
use Rattle.liszt_base.specs.declared.elements.Op.{Op}
use Rattle.batch_core.specs.declared.acts.Act.{Act}
use Rattle.batch_core.specs.declared.acts.Act.TheVariants.{Load, Fold}
use Rattle.liszt_base.specs.declared.elements.Op.TheVariants.{Add}
use Rattle.batch_core.specs.Internal.Cases.{word_shared}
use Rattle.batch_core.specs.Machine.{Worker, Machine, word, is_read, machine_at_start, worker_at_start, Member, Remains, FoldsAreLoaded, Apart}

-- a worker that adds to its word by an operator
abbrev updates : ℕ → Op → ℤ → List Act
updates w op v = Load w ∷ Fold w op v ∷ []

abbrev machine : ℤ → ℤ → Op → Op → ℤ → ℤ → Machine
machine x y o p u v = machine_at_start (x ∷ y ∷ []) (updates 0 o u ∷ updates 1 p v ∷ [])

-- each act of the worker names its word, and none only reads
of_updates : (w : ℕ) (op : Op) (v : ℤ) (a : Act) → Member a (updates w op v) → (word a ≡ w) × (is_read a ≡ false)
of_updates w op v a (inl e) = subst (λ b. (word b ≡ w) × (is_read b ≡ false)) e (refl, refl)
of_updates w op v a (inr (inl e)) = subst (λ b. (word b ≡ w) × (is_read b ≡ false)) e (refl, refl)
of_updates w op v a (inr (inr m)) = absurd m

of_worker : (x y : ℤ) (o p : Op) (u v : ℤ) (i : ℕ) (h : Worker) (a : Act) → slice_get (machine x y o p u v).workers i ≡ Some h → Member a h.acts
    → (word a ≡ i) × (is_read a ≡ false)
of_worker x y o p u v zero h a e m =
    let same : h ≡ worker_at_start (updates 0 o u) = cc in of_updates 0 o u a (subst (λ (w : Worker). Member a w.acts) same m)
of_worker x y o p u v (suc zero) h a e m =
    let same : h ≡ worker_at_start (updates 1 p v) = cc in of_updates 1 p v a (subst (λ (w : Worker). Member a w.acts) same m)
of_worker x y o p u v (suc (suc i)) h a e m = absurd cc

loaded : (words : List ℤ) (w : ℕ) (op : Op) (v : ℤ) → FoldsAreLoaded words (worker_at_start (updates w op v))
loaded words w op v zero x q z e = absurd cc
loaded words w op v (suc zero) x q z e = let same : w ≡ x = cc in inl (zero, refl, ap (λ n. Some (Load n)) same)
loaded words w op v (suc (suc k)) x q z e = absurd cc

pub two_words_apart : (x y : ℤ) (o p : Op) (u v : ℤ) → Apart (machine x y o p u v)
two_words_apart x y o p u v = record {
  separate = λ i j a b ne r s t.
      let first = (of_worker x y o p u v i r.worker a r.at_index r.member).0 in
      let second = (of_worker x y o p u v j s.worker b s.at_index s.member).0 in
      λ e. ne (sym first ∙ (e ∙ second));
  read_only = λ i j a b r s t.
      let other = (of_worker x y o p u v i r.worker a r.at_index r.member).1 in
      absurd (true≢false (sym t ∙ other));
  folds = by_worker;
}
  where
    by_worker : (i : ℕ) (h : Worker) → slice_get (machine x y o p u v).workers i ≡ Some h → FoldsAreLoaded (x ∷ y ∷ []) h
    by_worker zero h e =
        let same : worker_at_start (updates 0 o u) ≡ h = cc in subst (FoldsAreLoaded (x ∷ y ∷ [])) same (loaded (x ∷ y ∷ []) 0 o u)
    by_worker (suc zero) h e =
        let same : worker_at_start (updates 1 p v) ≡ h = cc in subst (FoldsAreLoaded (x ∷ y ∷ [])) same (loaded (x ∷ y ∷ []) 1 p v)
    by_worker (suc (suc i)) h e = absurd cc

-- two workers that load the same word
pub one_word_not_apart : Apart word_shared → ⊥
one_word_not_apart r =
    let first : Remains word_shared 0 (Load 0) = record { worker = worker_at_start (updates 0 Add (pos 1)); at_index = refl; member = inl refl } in
    let second : Remains word_shared 1 (Load 0) = record { worker = worker_at_start (updates 0 Add (pos 1)); at_index = refl; member = inl refl } in
    r.separate 0 1 (Load 0) (Load 0) (λ e. omega arith) first second refl refl
