-- Lists of one number for each scope or field, as they grow.
use Rattle.std.proofs.Common.{◌≡◌, ◌≢◌, ◌<◌, ℕ, ◌+◌, List, [], ◌∷◌, ◌++◌, refl, sym, ap, ◌∙◌, inl, inr, arith}
use Rattle.std.proofs.lemmas.Bool.Decides.{eqb_tells}
use Rattle.std.proofs.lemmas.List.{get_or_append_left, get_or_push, length_push}
use Rattle.word_region.specs.Internal.Tables.{IsTable}

pub table_none : (value : ℕ → ℕ) → IsTable 0 value []
table_none value = record { all = refl; values = λ index below. absurd (omega arith) }

pub table_more : (count : ℕ) (value : ℕ → ℕ) (list : List ℕ) (next : ℕ) → IsTable count value list → next ≡ value count
    → IsTable (count + 1) value (list ++ next ∷ [])
table_more count value list next is e = record {
  all = omega (arith, length_push list next, is.all);
  values = λ index below. elim (eqb_tells index count) [
    | inl h ↦ get_or_push list next 0 index (omega (arith, is.all)) ∙ e ∙ ap value (sym h.1)
    | inr h ↦
        let less : index < count = (let ne : index ≢ count = h.1 in omega arith) in
        get_or_append_left list (next ∷ []) 0 index (omega (arith, is.all)) ∙ is.values index less
  ];
}
