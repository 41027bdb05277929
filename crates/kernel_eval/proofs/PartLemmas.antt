-- An iteration leaves the same fields, with as many values, and the same scalars.
use Rattle.std.proofs.Common.{◌≡◌, ℕ, List, [], ◌∷◌, map, refl, sym, ap, ◌∙◌}
use Rattle.std.specs.Prelude.{ℤ}
use Rattle.liszt_base.specs.MeshLists.{MeshLists}
use Rattle.phase_types.specs.Environments.{Comprehension}
use Rattle.kernel_eval.specs.Iterations.{iteration_start, iteration}
use Rattle.kernel_eval.specs.States.{State, field_lengths, known_scalars}
use Rattle.kernel_eval.proofs.PreservationLemmas.{keeps_body}
use Rattle.kernel_eval.proofs.ShapeLemmas.{shape, unit_of, IsLike, shapes_kept}

keys_of_shape : (entries : List (ℕ × ℤ)) → map (λ entry. entry.0) (shape unit_of entries) ≡ map (λ entry. entry.0) entries
keys_of_shape [] = refl
keys_of_shape (entry ∷ entries) = ap (λ keys. entry.0 ∷ keys) (keys_of_shape entries)

pub same_lengths : (s t : State) → IsLike s t → field_lengths t ≡ field_lengths s
same_lengths s t like = like.fields

pub same_scalars : (s t : State) → IsLike s t → known_scalars t ≡ known_scalars s
same_scalars s t like = sym (keys_of_shape t.scalars) ∙ ap (map (λ entry. entry.0)) like.scalars ∙ keys_of_shape s.scalars

iteration_like : (mesh : MeshLists) (c : Comprehension) (turns : ℕ) (s : State) (id : ℕ) → IsLike s (iteration mesh c turns s id).after.state
iteration_like mesh c turns s id =
    let r = (keeps_body shapes_kept mesh c.environment c.body (λ a t. tt {0})).preserved (iteration_start c turns s id) in
    record { fields = r.like.fields; scalars = r.like.scalars }

pub iteration_lengths : (mesh : MeshLists) (c : Comprehension) (turns : ℕ) (s : State) (id : ℕ) → field_lengths (iteration mesh c turns s id).after.state ≡ field_lengths s
iteration_lengths mesh c turns s id = same_lengths s (iteration mesh c turns s id).after.state (iteration_like mesh c turns s id)

pub iteration_knows : (mesh : MeshLists) (c : Comprehension) (turns : ℕ) (s : State) (id : ℕ) → known_scalars (iteration mesh c turns s id).after.state ≡ known_scalars s
iteration_knows mesh c turns s id = same_scalars s (iteration mesh c turns s id).after.state (iteration_like mesh c turns s id)
