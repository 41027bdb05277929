-- The main program preserves the fields and scalars at entry and their numbers of values, with new ones in front.
use Rattle.std.proofs.Common.{◌≡◌, ℕ, ◌-◌, List, [], ◌∷◌, length, drop, refl, sym, ap, ◌∙◌, arith}
use Rattle.std.proofs.lemmas.List.{drop-map, length-map}
use Rattle.liszt_base.specs.MeshLists.{MeshLists}
use Rattle.mesh_topology.specs.Elements.{count, numbers}
use Rattle.phase_types.specs.Environments.{Comprehension}
use Rattle.kernel_eval.specs.Iterations.{iteration_start}
use Rattle.kernel_eval.specs.Outcomes.{for_each}
use Rattle.kernel_eval.specs.States.{State, main_evaluation}
use Rattle.kernel_eval.proofs.PreservationLemmas.{keeps_number_in, keeps_truth_in, keeps_body}
use Rattle.kernel_eval.proofs.ShapeLemmas.{shaped, shape, unit_of, length_of, IsLike, like_itself, Extends, further, dropped, map_update_shape, shapes_kept}
use Rattle.seq_meaning.specs.Runs.{after_scope, after_iteration}
use Rattle.seq_meaning.proofs.IterationLemmas.{for_each_unchanged}
use Rattle.seq_meaning.proofs.MainPreservationLemmas.{IsStateKept}

pub record Grows (s t : State) : Type 0 where
  pub fields : Extends (shape length_of s.fields) (shape length_of t.fields)
  pub scalars : Extends (shape unit_of s.scalars) (shape unit_of t.scalars)

grows_like : (s t : State) → IsLike s t → Grows s t
grows_like s t like = record { fields = record { new = []; is = like.fields }; scalars = record { new = []; is = like.scalars } }

dropped_shape : {K A B : Type 0} (of : A → B) (before after : List (K × A)) → Extends (shape of before) (shape of after)
    → shape of (drop (length after - length before) after) ≡ shape of before
dropped_shape of before after e =
    let long : length after - length before ≡ length (shape of after) - length (shape of before) =
    omega (arith, length-map after (shaped of), length-map before (shaped of)) in
    sym (drop-map (shaped of) (length after - length before) after) ∙ ap (λ n. drop n (shape of after)) long ∙ dropped (shape of before) (shape of after) e

pub scope_like : (before s : State) → Grows before s → IsLike before (after_scope before s)
scope_like before s r = record { fields = dropped_shape length_of before.fields s.fields r.fields; scalars = dropped_shape unit_of before.scalars s.scalars r.scalars }

pub over_like : (mesh : MeshLists) (c : Comprehension) (turns : ℕ) (ids : List ℕ) (s : State) → IsLike s (for_each (after_iteration mesh c turns) ids s).after
over_like mesh c turns ids s = record {
  fields = for_each_unchanged (λ s. shape length_of s.fields) (after_iteration mesh c turns)
      (λ id s. ((keeps_body shapes_kept mesh c.environment c.body (λ a t. tt)).preserved (iteration_start c turns s id)).like.fields) ids s;
  scalars = for_each_unchanged (λ s. shape unit_of s.scalars) (after_iteration mesh c turns)
      (λ id s. ((keeps_body shapes_kept mesh c.environment c.body (λ a t. tt)).preserved (iteration_start c turns s id)).like.scalars) ids s;
}

pub grows_kept : IsStateKept Grows
grows_kept =
    record {
      same = λ s. grows_like s s (like_itself s);
      later = λ a b c r s. record { fields = further _ _ _ r.fields s.fields; scalars = further _ _ _ r.scalars s.scalars };
      field = λ number elements n s. record { fields = record { new = _ ∷ []; is = refl }; scalars = record { new = []; is = refl } };
      scalar = λ number n s. record { fields = record { new = []; is = refl }; scalars = record { new = (number, tt {0}) ∷ []; is = refl } };
      scalar_changed = λ number n s. grows_like s _ (record { fields = refl; scalars = map_update_shape _ n s.scalars });
      print = λ n s. grows_like s _ (record { fields = refl; scalars = refl });
      scope = λ before s r. grows_like before _ (scope_like before s r);
      turn = λ n s e. grows_like s _ (record { fields = refl; scalars = refl });
      number = λ mesh environment e s. grows_like s _ ((keeps_number_in shapes_kept mesh environment e (λ a t. tt)).preserved (main_evaluation s)).like;
      truth = λ mesh environment e s. grows_like s _ ((keeps_truth_in shapes_kept mesh environment e (λ a t. tt)).preserved (main_evaluation s)).like;
      over = λ mesh c turns s. grows_like s _ (over_like mesh c turns (numbers 0 (count mesh c.over)) s);
    }
