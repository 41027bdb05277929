-- The phases of a comprehension, written from one accessed place to the next.
use Rattle.std.proofs.Common.{◌≡◌, ℕ, ◌+◌, ◌-◌, ◌<◌, ◌≤◌, List, ◌++◌, Option, None, length, sym, ap, ◌∙◌, arith}
use Rattle.std.specs.Io.KnownBytes.{append_known}
use Rattle.std.specs.List.{flat_map, range_with_len}
use Rattle.liszt_io.specs.Sinks.{TakesPrefix}
use Rattle.phase_types.specs.Checked.{checked_mode}
use Rattle.phase_types.specs.Walk.{Subject}
use Rattle.phase_types.specs.declared.state.CheckedProgram.{CheckedProgram}
use Rattle.liszt_report.specs.Internal.Places.{subject_at}
use Rattle.liszt_report.specs.Texts.{comprehension_phases, subject_text}
use Rattle.liszt_report.proofs.PlaceLemmas.{no_text, skip_places, subjects_by_place}
use Rattle.liszt_report.proofs.WrittenLemmas.{HasTaken, taken_none, taken_as, taken_more, taken_prefix, range_next}

-- the text of the accesses from a place on
abbrev pub phases_from : CheckedProgram → ℕ → ℕ → ℕ → ℕ → List ℕ
phases_from checked comp fields end place = flat_map (λ p. subject_text checked comp (subject_at fields p)) (range_with_len place (end - place))

abbrev pub IsSkipped : CheckedProgram → ℕ → ℕ → ℕ → ℕ → Type 0
IsSkipped checked comp fields from place = (p : ℕ) → from ≤ p → p < place → checked_mode checked comp (subject_at fields p) ≡ None

skipped_text : (checked : CheckedProgram) (comp fields end from place : ℕ) → from ≤ place → place ≤ end → IsSkipped checked comp fields from place
    → phases_from checked comp fields end from ≡ phases_from checked comp fields end place
skipped_text checked comp fields end from place low high skipped =
    skip_places (λ p. subject_text checked comp (subject_at fields p)) from place end low high
    (λ p below above. no_text checked comp (subject_at fields p) (skipped p below above))

pub phases_first : (checked : CheckedProgram) (comp fields end place : ℕ) (before : Option (List ℕ)) → fields ≡ 6 + length checked.fields
    → end ≡ fields + length checked.scalars → place ≤ end → IsSkipped checked comp fields 0 place
    → HasTaken (comprehension_phases checked comp) (phases_from checked comp fields end place) before before
phases_first checked comp fields end place before first last high skipped =
    let text = λ (n : ℕ). flat_map (λ p. subject_text checked comp (subject_at n p)) (range_with_len 0 (n + length checked.scalars)) in
    let all : end - 0 ≡ fields + length checked.scalars = omega arith in
    let whole : comprehension_phases checked comp ≡ phases_from checked comp fields end 0 =
    subjects_by_place (subject_text checked comp) (6 + length checked.fields) (length checked.scalars) ∙ ap text (sym first)
    ∙ ap (λ n. flat_map (λ p. subject_text checked comp (subject_at fields p)) (range_with_len 0 n)) (sym all) in
    taken_as _ _ _ _ _ (taken_none (comprehension_phases checked comp) before) (whole ∙ skipped_text checked comp fields end 0 place (omega arith) high skipped)

here : (checked : CheckedProgram) (comp fields end place : ℕ) (subject : Subject) → subject ≡ subject_at fields place → place < end
    → phases_from checked comp fields end place ≡ subject_text checked comp subject ++ phases_from checked comp fields end (place + 1)
here checked comp fields end place subject is below =
    range_next (λ p. subject_text checked comp (subject_at fields p)) place end below
    ∙ ap (λ s. subject_text checked comp s ++ phases_from checked comp fields end (place + 1)) (sym is)

pub phases_next : (checked : CheckedProgram) (comp fields end place next : ℕ) (subject : Subject) (before between now : Option (List ℕ))
    → HasTaken (comprehension_phases checked comp) (phases_from checked comp fields end place) before between → subject ≡ subject_at fields place → place < end
    → now ≡ append_known between (subject_text checked comp subject) → place + 1 ≤ next → next ≤ end → IsSkipped checked comp fields (place + 1) next
    → HasTaken (comprehension_phases checked comp) (phases_from checked comp fields end next) before now
phases_next checked comp fields end place next subject before between now taken is below more low high skipped =
    taken_as _ _ _ _ _ (taken_more (subject_text checked comp subject) (phases_from checked comp fields end (place + 1)) taken (here checked comp fields end place subject is below) more)
    (skipped_text checked comp fields end (place + 1) next low high skipped)

pub phases_fault : (checked : CheckedProgram) (comp fields end place : ℕ) (subject : Subject) (before between now : Option (List ℕ))
    → HasTaken (comprehension_phases checked comp) (phases_from checked comp fields end place) before between → subject ≡ subject_at fields place → place < end
    → TakesPrefix between now (subject_text checked comp subject) → TakesPrefix before now (comprehension_phases checked comp)
phases_fault checked comp fields end place subject before between now taken is below prefix =
    taken_prefix (subject_text checked comp subject) (phases_from checked comp fields end (place + 1)) taken (here checked comp fields end place subject is below) prefix
