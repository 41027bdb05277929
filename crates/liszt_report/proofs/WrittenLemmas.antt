-- A text that a sink takes piece by piece.
use Rattle.std.proofs.Common.{◌≡◌, ℕ, ◌+◌, ◌-◌, ◌<◌, ◌≤◌, List, [], ◌∷◌, ◌++◌, Option, Result, Ok, Err, refl, sym, ap, subst, ◌∙◌, arith, append_assoc, add-zero, zero-add, drop, zero, suc, Some}
use Rattle.std.specs.Io.KnownBytes.{append_known}
use Rattle.std.proofs.lemmas.List.{append-nil}
use Rattle.std.proofs.lemmas.Option.{slice_get_within, get_or_from_slice_get}
use Rattle.std.proofs.Math.Seq.{drop-cons}
use Rattle.std.specs.List.{slice_get}
use Rattle.std.specs.List.{flat_map, range_with_len}
use Rattle.liszt_io.specs.declared.outside.WriteFault.{WriteFault}
use Rattle.liszt_io.specs.Sinks.{TakesPrefix, Writes}
use Rattle.liszt_io.proofs.PieceLemmas.{append_known-nil, append_known-append}

-- The sink took the text but for the rest of it.
pub record HasTaken (text rest : List ℕ) (before now : Option (List ℕ)) : Type 0 where
  pub done : List ℕ
  pub parts : text ≡ done ++ rest
  pub output : now ≡ append_known before done

pub taken_none : (text : List ℕ) (before : Option (List ℕ)) → HasTaken text text before before
taken_none text before = record { done = []; parts = refl; output = sym (append_known-nil before) }

pub taken_all : {text : List ℕ} {before now : Option (List ℕ)} → HasTaken text [] before now → now ≡ append_known before text
taken_all {text} {before} {now} taken = taken.output ∙ ap (append_known before) (sym (append-nil taken.done) ∙ sym taken.parts)

-- one more piece of the rest
pub taken_more : {text rest : List ℕ} {before between now : Option (List ℕ)} (piece others : List ℕ)
    → HasTaken text rest before between → rest ≡ piece ++ others → now ≡ append_known between piece → HasTaken text others before now
taken_more {text} {rest} {before} {between} {now} piece others taken is more =
    record {
      done = taken.done ++ piece;
      parts = taken.parts ∙ ap (λ (l : List ℕ). taken.done ++ l) is ∙ sym (append_assoc taken.done piece others);
      output = more ∙ ap (λ (k : Option (List ℕ)). append_known k piece) taken.output ∙ append_known-append before taken.done piece;
    }

-- a prefix of one more piece
pub taken_prefix : {text rest : List ℕ} {before between now : Option (List ℕ)} (piece others : List ℕ)
    → HasTaken text rest before between → rest ≡ piece ++ others → TakesPrefix between now piece → TakesPrefix before now text
taken_prefix {text} {rest} {before} {between} {now} piece others taken is prefix =
    let regrouped : taken.done ++ ((prefix.prefix ++ prefix.rest) ++ others) ≡ (taken.done ++ prefix.prefix) ++ (prefix.rest ++ others) = simp append_assoc in
    record {
      prefix = taken.done ++ prefix.prefix;
      rest = prefix.rest ++ others;
      parts = taken.parts ∙ ap (λ (l : List ℕ). taken.done ++ l) (is ∙ ap (λ (l : List ℕ). l ++ others) prefix.parts) ∙ regrouped;
      output = prefix.output ∙ ap (λ (k : Option (List ℕ)). append_known k prefix.prefix) taken.output ∙ append_known-append before taken.done prefix.prefix;
    }

-- the result of a fault, and of the last piece
pub writes_fault : (text : List ℕ) (before now : Option (List ℕ)) (fault : WriteFault) (result : Result Unit WriteFault) → result ≡ Err fault
    → TakesPrefix before now text → Writes text before now result
writes_fault text before now fault result is prefix = subst (Writes text before now) (sym is) prefix

pub writes_last : (text piece : List ℕ) (before between now : Option (List ℕ)) (result : Result Unit WriteFault)
    → HasTaken text piece before between → Writes piece between now result → Writes text before now result
writes_last text piece before between now (Ok _) taken more = taken_all (taken_more piece [] taken (sym (append-nil piece)) more)
writes_last text piece before between now (Err fault) taken prefix = taken_prefix piece [] taken (sym (append-nil piece)) prefix

-- Texts that are written item by item: what remains at an item.
pub drop_item : {A : Type 0} (xs : List A) (k : ℕ) (x : A) → slice_get xs k ≡ Some x → drop k xs ≡ x ∷ drop (k + 1) xs
drop_item xs k x is =
    let next : suc k ≡ k + 1 = omega arith in
    drop-cons xs k x (slice_get_within xs k x is) ∙ ap (λ y. y ∷ drop (suc k) xs) (get_or_from_slice_get xs k x x is) ∙ ap (λ n. x ∷ drop n xs) next

pub drop_next : {A : Type 0} (f : A → List ℕ) (xs : List A) (k : ℕ) (x : A) → slice_get xs k ≡ Some x
    → flat_map f (drop k xs) ≡ f x ++ flat_map f (drop (k + 1) xs)
drop_next f xs k x is = ap (flat_map f) (drop_item xs k x is)

pub range_next : (f : ℕ → List ℕ) (k n : ℕ) → k < n → flat_map f (range_with_len k (n - k)) ≡ f k ++ flat_map f (range_with_len (k + 1) (n - (k + 1)))
range_next f k n below =
    let e : n - k ≡ suc (n - (k + 1)) = omega arith in
    rw e refl

pub range_none : (f : ℕ → List ℕ) (k n : ℕ) → n ≤ k → flat_map f (range_with_len k (n - k)) ≡ []
range_none f k n end =
    let e : n - k ≡ 0 = omega arith in
    rw e refl

-- the texts of numbers, where the lines are the same
pub range_same : (f g : ℕ → List ℕ) (a n : ℕ) → ((id : ℕ) → a ≤ id → id < a + n → f id ≡ g id) → flat_map f (range_with_len a n) ≡ flat_map g (range_with_len a n)
range_same f g a zero same = refl
range_same f g a (suc n) same =
    ap (λ line. line ++ flat_map f (range_with_len (a + 1) n)) (same a (omega arith) (omega arith))
    ∙ ap (λ lines. g a ++ lines) (range_same f g (a + 1) n (λ id least below. same id (omega (arith, least)) (omega (arith, below))))

-- the texts of numbers from a on, and of more of them
pub range_parts : {X : Type 0} (f : ℕ → List X) (a n m : ℕ) → flat_map f (range_with_len a (n + m)) ≡ flat_map f (range_with_len a n) ++ flat_map f (range_with_len (a + n) m)
range_parts f a zero m = rw (zero-add m, add-zero a) refl
range_parts f a (suc n) m =
    let more : suc n + m ≡ suc (n + m) = omega arith in
    let from : a + 1 + n ≡ a + suc n = omega arith in
    rw more (rw (range_parts f (a + 1) n m) (rw from (sym (append_assoc (f a) (flat_map f (range_with_len (a + 1) n)) (flat_map f (range_with_len (a + suc n) m))))))

-- the rest by another name
pub taken_as : (text rest other : List ℕ) (before now : Option (List ℕ)) → HasTaken text rest before now → rest ≡ other → HasTaken text other before now
taken_as text rest other before now taken is = subst (λ (l : List ℕ). HasTaken text l before now) is taken
