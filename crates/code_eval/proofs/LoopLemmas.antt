-- A `while`, with a bound that is no less than the remaining turns.
use Rattle.std.proofs.Common.{◌≡◌, ◌≤◌, ℕ, zero, suc, Bool, true, false, refl, ap, subst, arith}
use Rattle.std.specs.Prelude.{Err}
use Rattle.code_eval.specs.Executions.{Activation, Execution, Done, pure, answered, ◌>>=◌, ◌>>◌, if_then_else, take_turn, with_turns, loop_within, loop, LeadsTo}
use Rattle.code_eval.specs.Stops.{Stop}
use Rattle.code_eval.specs.Stores.{StoreView}
use Rattle.code_eval.proofs.LeadingLemmas.{at_once, changed, then, given_value, stopped}

pub record IsBeforeTest (spent : Execution Done) (test : Execution Bool) (body : Execution Done) (a : Activation) (s : StoreView) (b : Activation) (t : StoreView) : Type 0 where
  pub bound : ℕ
  pub enough : b.turns ≤ bound
  pub so_far : LeadsTo (loop spent test body) a s (loop_within spent test body bound) b t

module _ (spent : Execution Done) (test : Execution Bool) (body : Execution Done) where
  pub at_first : {a : Activation} {s : StoreView} → IsBeforeTest spent test body a s a s
  at_first {a = a} = record { bound = a.turns; enough = omega arith; so_far = at_once (λ view. refl) }

  -- what follows the next test
  abbrev pub after_test : ℕ → Bool → Execution Done
  after_test zero b = if_then_else b spent (pure (tt {0}))
  after_test (suc n) b = if_then_else b ((λ view a. take_turn spent body a.turns view a) >> loop_within spent test body n) (pure (tt {0}))

  tests : (n : ℕ) → loop_within spent test body n ≡ (test >>= λ b. after_test n b)
  tests zero = refl
  tests (suc n) = refl

  pub is_tested : {a b : Activation} {s t : StoreView} (w : IsBeforeTest spent test body a s b t) → LeadsTo (loop spent test body) a s (test >>= λ b. after_test w.bound b) b t
  is_tested {a = a} {b = b} {s = s} {t = t} w = subst (λ p. LeadsTo (loop spent test body) a s p b t) (tests w.bound) w.so_far

  ends : (n : ℕ) → after_test n false ≡ pure (tt {0})
  ends zero = refl
  ends (suc n) = refl

  pub ended : {a b c : Activation} {s t u : StoreView} (w : IsBeforeTest spent test body a s b t) → LeadsTo test b t (pure false) c u → LeadsTo (loop spent test body) a s (pure (tt {0})) c u
  ended {a = a} {c = c} {s = s} {u = u} w h = subst (λ p. LeadsTo (loop spent test body) a s p c u) (ends w.bound) (then (is_tested w) (given_value _ h))

  pub test_stopped : {a b c : Activation} {s t u : StoreView} {stop : Stop} (w : IsBeforeTest spent test body a s b t) → LeadsTo test b t (answered (Err stop)) c u
      → LeadsTo (loop spent test body) a s (answered (Err stop)) c u
  test_stopped w h = then (is_tested w) (stopped _ h)

  -- no turn remains
  is_spent : (n : ℕ) {b c : Activation} {u : StoreView} {stop : Stop} → b.turns ≡ 0 → LeadsTo spent b u (answered (Err stop)) c u → LeadsTo (after_test n true) b u (answered (Err stop)) c u
  is_spent zero e h = h
  is_spent (suc n) {b = b} {u = u} e h = stopped _ (then (at_once (λ view. ap (λ left. take_turn spent body left view b) e)) h)

  pub out_of_turns : {a b c d : Activation} {s t u : StoreView} {stop : Stop} (w : IsBeforeTest spent test body a s b t) → LeadsTo test b t (pure true) c u → c.turns ≡ 0
      → LeadsTo spent c u (answered (Err stop)) d u → LeadsTo (loop spent test body) a s (answered (Err stop)) d u
  out_of_turns w h e g = then (is_tested w) (then (given_value _ h) (is_spent w.bound e g))

  -- a turn is taken
  turn : (n left : ℕ) (b : Activation) (u : StoreView) → b.turns ≡ suc left → LeadsTo (after_test (suc n) true) b u (body >> loop_within spent test body n) (with_turns left b) u
  unfolding ◌>>=◌
  turn n left b u e = changed (omega (arith, e)) (λ view. ap (λ m. (((λ v a. take_turn spent body m v a) >> loop_within spent test body n) view b)) e)

  pub record IsBeforeBody (a : Activation) (s : StoreView) (b : Activation) (t : StoreView) : Type 0 where
    pub bound : ℕ
    pub enough : b.turns ≤ bound
    pub so_far : LeadsTo (loop spent test body) a s (body >> loop_within spent test body bound) b t

  pub turn_taken : {a b c : Activation} {s t u : StoreView} (left : ℕ) (w : IsBeforeTest spent test body a s b t) → LeadsTo test b t (pure true) c u → c.turns ≡ suc left
      → IsBeforeBody a s (with_turns left c) u
  turn_taken {a = a} {b = b} {c = c} {s = s} {u = u} left w h e = go w.bound w.enough (then (is_tested w) (given_value _ h)) where
    go : (n : ℕ) → b.turns ≤ n → LeadsTo (loop spent test body) a s (after_test n true) c u → IsBeforeBody a s (with_turns left c) u
    go zero few x = absurd (omega (arith, few, h.turns, e))
    go (suc n) few x = record { bound = n; enough = omega (arith, few, h.turns, e); so_far = then x (turn n left c u e) }

  pub again : {a b c : Activation} {s t u : StoreView} (w : IsBeforeBody a s b t) → LeadsTo body b t (pure (tt {0})) c u → IsBeforeTest spent test body a s c u
  again w h = record { bound = w.bound; enough = omega (arith, w.enough, h.turns); so_far = then w.so_far (given_value _ h) }
