-- Names that stay distinct where a file with a new name is added.
use Rattle.std.proofs.Common.{◌≡◌, ℕ, List, [], ◌∷◌, ◌++◌, map, Bool, true, false, ◌||◌, Result, Ok, Err, OnOk, OnErr, refl, sym, ap, subst, ◌∙◌}
use Rattle.std.proofs.lemmas.List.{map-append}
use Rattle.std.proofs.lemmas.Map.Keys.{IsDistinct-push}
use Rattle.std.proofs.lemmas.Slice.Eq.{bytes_eq-Decides}
use Rattle.std.specs.Cmp.{IsEquivalence}
use Rattle.std.specs.List.{IsDistinct, list_any}
use Rattle.std.specs.Str.{bytes_eq}
use Rattle.liszt_base.specs.declared.answers.NoMemory.{NoMemory}
use Rattle.liszt_io.specs.declared.held_file.HeldFile.{HeldFile}

same_test : (a b : Bool) → (a ≡ true → b ≡ true) → (b ≡ true → a ≡ true) → a ≡ b
same_test true b there back = sym (there refl)
same_test false true there back = back refl
same_test false false there back = refl

-- equality of bytes is an equivalence
bytes_equivalence : IsEquivalence bytes_eq
bytes_equivalence = record {
  refl = λ x. (bytes_eq-Decides x x).1 refl;
  symm = λ x y. same_test (bytes_eq x y) (bytes_eq y x)
      (λ h. (bytes_eq-Decides y x).1 (sym ((bytes_eq-Decides x y).0 h)))
      (λ h. (bytes_eq-Decides x y).1 (sym ((bytes_eq-Decides y x).0 h)));
  congr = λ x y z h. ap (λ v. bytes_eq v z) ((bytes_eq-Decides x y).0 h);
}

-- a test of the names is one of the files
list_any-names : (name : List ℕ) (files : List HeldFile)
    → list_any (bytes_eq name) (map (λ (f : HeldFile). f.name) files) ≡ list_any (λ (f : HeldFile). bytes_eq name f.name) files
list_any-names name [] = refl
list_any-names name (f ∷ files) = ap (λ b. bytes_eq name f.name || b) (list_any-names name files)

-- the names after a file with a new name was added, or was not
pub distinct_names : (name : List ℕ) (files after : List HeldFile) (file : HeldFile) (result : Result Unit NoMemory)
    → IsDistinct bytes_eq (map (λ (f : HeldFile). f.name) files)
    → list_any (λ (f : HeldFile). bytes_eq name f.name) files ≡ false → file.name ≡ name
    → OnOk result (after ≡ files ++ file ∷ []) → OnErr result (after ≡ files)
    → IsDistinct bytes_eq (map (λ (f : HeldFile). f.name) after)
distinct_names name files after file (Ok _) distinct absent same added unchanged =
    let names = map (λ (f : HeldFile). f.name) files in
    let pushed : IsDistinct bytes_eq (names ++ name ∷ []) =
    IsDistinct-push bytes_equivalence names name distinct (list_any-names name files ∙ absent) in
    let are : map (λ (f : HeldFile). f.name) after ≡ names ++ name ∷ [] =
    ap (map (λ (f : HeldFile). f.name)) added ∙ map-append (λ (f : HeldFile). f.name) files (file ∷ [])
    ∙ ap (λ n. names ++ n ∷ []) same in
    subst (IsDistinct bytes_eq) (sym are) pushed
distinct_names name files after file (Err _) distinct absent same added unchanged =
    subst (λ fs. IsDistinct bytes_eq (map (λ (f : HeldFile). f.name) fs)) (sym unchanged) distinct

-- no names
pub no_names : (files : List HeldFile) → files ≡ [] → IsDistinct bytes_eq (map (λ (f : HeldFile). f.name) files)
unfolding IsDistinct
no_names files none = subst (λ (fs : List HeldFile). IsDistinct bytes_eq (map (λ (f : HeldFile). f.name) fs)) (sym none) tt
