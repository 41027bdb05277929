-- Consecutive lists in one buffer: one more at the end, and the one at an index.
use Rattle.std.proofs.Common.{◌≡◌, ℕ, zero, suc, ◌-◌, ◌<◌, ◌≤◌, Some, List, [], ◌∷◌, ◌++◌, take, drop, length, get_or, refl, sym, ap, subst, ◌∙◌, arith}
use Rattle.std.specs.List.{slice_get}
use Rattle.std.proofs.lemmas.List.{length-append, length-drop, take-append-le, drop-append-le, take_rest}
use Rattle.std.proofs.Math.Seq.{drop-append_seam}
use Rattle.std.proofs.lemmas.Grind.{get_or_default_zero}
use Rattle.liszt_base.specs.Cuts.{cut, AreEnds, start_at}

-- the first place is not past the last
pub ends_rise : (start total : ℕ) (ends : List ℕ) → AreEnds start ends total → start ≤ total
ends_rise start total [] h = omega (arith, h)
ends_rise start total (end ∷ ends) h = let more = ends_rise end total ends h.1 in omega (arith, h.0)

-- the number of lists is the number of ends
pub cut_length : {A : Type 0} (start : ℕ) (items : List A) (ends : List ℕ) → length (cut start items ends) ≡ length ends
cut_length start items [] = refl
cut_length start items (end ∷ ends) = ap suc (cut_length end items ends)

-- items appended change no earlier piece
piece_kept : {A : Type 0} (start end : ℕ) (items more : List A) → start ≤ end → end ≤ length items
    → take (end - start) (drop start (items ++ more)) ≡ take (end - start) (drop start items)
piece_kept start end items more le fits =
    let e = drop-append-le start items more (omega arith) in
    let within : end - start ≤ length (drop start items) = omega (arith, length-drop start items) in
    ap (take (end - start)) e ∙ take-append-le (end - start) (drop start items) more within

pub cut_kept : {A : Type 0} (start total : ℕ) (items more : List A) (ends : List ℕ) → AreEnds start ends total → total ≤ length items
    → cut start (items ++ more) ends ≡ cut start items ends
cut_kept start total items more [] h fits = refl
cut_kept start total items more (end ∷ ends) h fits =
    let rise = ends_rise end total ends h.1 in
    cc (piece_kept start end items more h.0 (omega arith), cut_kept end total items more ends h.1 fits)

-- the items after the last end are one list more
pub cut_close : {A : Type 0} (start total : ℕ) (items : List A) (ends : List ℕ) → AreEnds start ends total → total ≤ length items
    → cut start items (ends ++ length items ∷ []) ≡ cut start items ends ++ drop total items ∷ []
cut_close start total items [] h le =
    let all : take (length items - start) (drop start items) ≡ drop total items = take_rest items start ∙ ap (λ k. drop k items) h in
    ap (λ l. l ∷ []) all
cut_close start total items (end ∷ ends) h le = ap (λ l. take (end - start) (drop start items) ∷ l) (cut_close end total items ends h.1 le)

-- a list more
pub cut_push : {A : Type 0} (start : ℕ) (items more : List A) (ends : List ℕ) → AreEnds start ends (length items)
    → cut start (items ++ more) (ends ++ length (items ++ more) ∷ []) ≡ cut start items ends ++ more ∷ []
cut_push start items more ends h =
    let longer : length items ≤ length (items ++ more) = omega (arith, length-append items more) in
    let kept = cut_kept start (length items) items more ends h (omega arith) in
    cut_close start (length items) (items ++ more) ends h longer
    ∙ cc (ap (λ l. l ++ drop (length items) (items ++ more) ∷ []) kept, ap (λ l. cut start items ends ++ l ∷ []) (drop-append_seam items more))

pub ends_push : (start total total' : ℕ) (ends : List ℕ) → AreEnds start ends total → total ≤ total' → AreEnds start (ends ++ total' ∷ []) total'
ends_push start total total' [] h le = (omega (arith, h), refl)
ends_push start total total' (end ∷ ends) h le = (h.0, ends_push end total total' ends h.1 le)

-- where the list at a place begins and ends
pub cut_at : {A : Type 0} (start : ℕ) (items : List A) (ends : List ℕ) (i : ℕ) → i < length ends
    → slice_get (cut start items ends) i ≡ Some (take (get_or ends i 0 - start_at start ends i) (drop (start_at start ends i) items))
cut_at start items [] i lt = absurd (omega arith)
cut_at start items (end ∷ ends) zero lt = refl
cut_at start items (end ∷ ends) (suc zero) lt = cut_at end items ends zero (omega arith)
cut_at start items (end ∷ ends) (suc (suc i)) lt = cut_at end items ends (suc i) (omega arith)

pub ends_at : (start total : ℕ) (ends : List ℕ) (i : ℕ) → AreEnds start ends total → i < length ends
    → (start_at start ends i ≤ get_or ends i 0) × (get_or ends i 0 ≤ total)
ends_at start total [] i h lt = absurd (omega arith)
ends_at start total (end ∷ ends) zero h lt = (h.0, ends_rise end total ends h.1)
ends_at start total (end ∷ ends) (suc zero) h lt = ends_at end total ends zero h.1 (omega arith)
ends_at start total (end ∷ ends) (suc (suc i)) h lt = ends_at end total ends (suc i) h.1 (omega arith)

-- a place of the lists is a place of their ends
pub is_place : {A : Type 0} (start : ℕ) (items : List A) (ends : List ℕ) (i : ℕ) (lists : List (List A)) → cut start items ends ≡ lists → i < length lists
    → i < length ends
is_place start items ends i lists e lt = let size = cut_length start items ends in omega (arith, ap length e, size)

-- The list at a place, from the numbers that the code has: begin and end within the items, and the piece between them.
pub record IsPiece {A : Type 0} (lists : List (List A)) (i start end : ℕ) (items : List A) : Type 0 where
  pub rises : start ≤ end
  pub fits : end ≤ length items
  pub is : slice_get lists i ≡ Some (take (end - start) (drop start items))

pub piece_at : {A : Type 0} (items slice : List A) (ends seen : List ℕ) (i start end : ℕ) (lists : List (List A))
    → cut 0 items ends ≡ lists → AreEnds 0 ends (length items) → i < length lists → seen ≡ ends → slice ≡ items
    → start ≡ start_at 0 seen i → end ≡ get_or ends i end → IsPiece lists i start end slice
piece_at items slice ends seen i start end lists e h lt same same' start_is end_is =
    let inside : i < length ends = is_place 0 items ends i lists e lt in
    let bounds = ends_at 0 (length items) ends i h inside in
    let start_is' : start ≡ start_at 0 ends i = start_is ∙ ap (λ l. start_at 0 l i) same in
    let end_is' : end ≡ get_or ends i 0 = end_is ∙ get_or_default_zero ends i end inside in
    let is = sym (ap (λ l. slice_get l i) e) ∙ cut_at 0 items ends i inside in
    let turned : take (get_or ends i 0 - start_at 0 ends i) (drop (start_at 0 ends i) items) ≡ take (end - start) (drop start slice) =
    cc (sym start_is', sym end_is', sym same') in
    record {
      rises = omega (arith, bounds.0, start_is', end_is');
      fits = omega (arith, bounds.1, end_is', ap length same');
      is = is ∙ ap Some turned;
    }

-- the lists with one more, from the items and the ends that the code has
pub grown : {A : Type 0} (items more items' : List A) (ends ends' : List ℕ) (end : ℕ) (lists : List (List A)) → cut 0 items ends ≡ lists
    → AreEnds 0 ends (length items) → items' ≡ items ++ more → end ≡ length items' → ends' ≡ ends ++ end ∷ []
    → AreEnds 0 ends' (length items') × (cut 0 items' ends' ≡ lists ++ more ∷ [])
grown items more items' ends ends' end lists e h same end_is same' =
    let size : end ≡ length (items ++ more) = end_is ∙ ap length same in
    let all : ends' ≡ ends ++ length (items ++ more) ∷ [] = same' ∙ ap (λ k. ends ++ k ∷ []) size in
    let h' = ends_push 0 (length items) (length (items ++ more)) ends h (omega (arith, length-append items more)) in
    let turned : AreEnds 0 ends' (length items') =
    subst (λ (l : List ℕ). AreEnds 0 l (length items')) (sym all)
    (subst (λ (k : ℕ). AreEnds 0 (ends ++ length (items ++ more) ∷ []) k) (ap length (sym same)) h') in
    let cuts = ap (λ l. cut 0 l ends') same ∙ (ap (λ l. cut 0 (items ++ more) l) all ∙ (cut_push 0 items more ends h ∙ ap (λ l. l ++ more ∷ []) e)) in
    (turned, cuts)
