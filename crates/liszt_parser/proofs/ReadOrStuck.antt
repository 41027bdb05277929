-- Each list of tokens is read, or stuck somewhere: what a parser would find is found for the definitions, with no parser.
use Rattle.std.proofs.Common.{◌≡◌, ℕ, ◌<◌, ◌≤◌, ◌⊎◌, inl, inr, List, [], ◌∷◌, Option, Some, None, length, refl, ap, arith, length-append}
use Rattle.std.specs.Prelude.{ℤ, Bool, true, false}
use Rattle.std.proofs.Common.{int_eq}
use Rattle.std.proofs.lemmas.Bool.Decides.{Decides-int_eq}
use Rattle.liszt_lexer.specs.declared.token.TokenKind.{TokenKind}
use Rattle.liszt_lexer.specs.declared.token.TokenKind.TheVariants.{Name as NameToken, Number as NumberToken, Word, Symbol, MinSet, MaxSet}
use Rattle.liszt_parser.specs.Grammar.{Lexeme}
use Rattle.liszt_parser.specs.Internal.Reading.{Reader, IsRead, IsStuck, HeadIs, HeadIsNot, Is, HasValue, token, token_with_value, ◌then◌, mapped_reader, optional}
use Rattle.liszt_parser.proofs.Readers.{Lawful, Behind, Loose, Becomes, free_after, free_loose, then_lawful, then_read, then_first, then_second, mapped_read, mapped_stuck, becomes_read, becomes_stuck, becomes_stopped}
use Rattle.liszt_parser.proofs.TokenReaders.{free, token_lawful, token_read, token_stuck, chosen_read, chosen_stuck, maybe_stuck, maybe_twice, nothing_read, something_read}

-- the tokens are read, or stuck
unfoldable pub ReadOrStuck : {A : Type 0} → Reader A → List Lexeme → Type 0
ReadOrStuck {A} r ts = ((x : A) × (left : List Lexeme) × IsRead r ts x left) ⊎ ((at : List Lexeme) × IsStuck r ts at)

-- what is left is no longer
pub left_length : {A : Type 0} {r : Reader A} {ts left : List Lexeme} {x : A} → IsRead r ts x left → length left ≤ length ts
left_length {left = left} d = let parts = ap length d.parts in omega (arith, parts, length-append d.front left)

-- ONE AFTER THE OTHER
pub known_from : {A B : Type 0} {r : Reader A} {s : Reader B} → Lawful r → Lawful s → Behind r s → Loose r s → (ts : List Lexeme) → ReadOrStuck r ts
    → ((x : A) (left : List Lexeme) → IsRead r ts x left → ReadOrStuck s left) → ReadOrStuck (r then s) ts
unfolding ReadOrStuck
known_from {r = r} {s} lr ls b loose ts (inr h) k = inr (h.0, then_first ls b ts h.0 h.1)
known_from {r = r} {s} lr ls b loose ts (inl h) k = go (k h.0 h.1 h.2) where
  go : ReadOrStuck s h.1 → ReadOrStuck (r then s) ts
  go (inl h') = inl ((h.0, h'.0), h'.1, then_read lr ls b ts h.1 h'.1 h.0 h'.0 h.2 h'.2)
  go (inr h') = inr (h'.0, then_second lr b loose ts h.1 h'.0 h.0 h.2 h'.1)

pub known_then : {A B : Type 0} {r : Reader A} {s : Reader B} → Lawful r → Lawful s → Behind r s → Loose r s → (ts : List Lexeme) → ReadOrStuck r ts
    → ((left : List Lexeme) → length left ≤ length ts → r.stops left → ReadOrStuck s left) → ReadOrStuck (r then s) ts
known_then lr ls b loose ts h k = known_from lr ls b loose ts h (λ x left d. k left (left_length d) d.stops)

pub known_mapped : {A B : Type 0} (s : Reader B) (f : B → A) (ts : List Lexeme) → ReadOrStuck s ts → ReadOrStuck (mapped_reader f s) ts
unfolding ReadOrStuck
known_mapped s f ts (inl h) = inl (f h.0, h.1, mapped_read {s = s} f ts h.1 h.0 (f h.0) refl h.2)
known_mapped s f ts (inr h) = inr (h.0, mapped_stuck {s = s} f ts h.0 h.1)

-- FIRST TOKENS

same_number : (m n : ℕ) → (m ≡ n) ⊎ (m ≡ n → ⊥)
same_number m n = grind arith

same_integer : (m n : ℤ) → (m ≡ n) ⊎ (m ≡ n → ⊥)
same_integer m n = go (int_eq m n) refl where
  go : (b : Bool) → int_eq m n ≡ b → (m ≡ n) ⊎ (m ≡ n → ⊥)
  go true b = inl ((Decides-int_eq m n).0 b)
  go false b = inr (λ e. let h = (Decides-int_eq m n).1 e in absurd cc)

pub decide_kind : (k kind : TokenKind) → (k ≡ kind) ⊎ (k ≡ kind → ⊥)
decide_kind NameToken NameToken = inl refl
decide_kind MinSet MinSet = inl refl
decide_kind MaxSet MaxSet = inl refl
decide_kind (Word m) (Word n) = elim (same_number m n) [ inl e ↦ inl (ap Word e) | inr not ↦ inr (λ e. not cc) ]
decide_kind (Symbol m) (Symbol n) = elim (same_number m n) [ inl e ↦ inl (ap Symbol e) | inr not ↦ inr (λ e. not cc) ]
decide_kind (NumberToken m) (NumberToken n) = elim (same_integer m n) [ inl e ↦ inl (ap NumberToken e) | inr not ↦ inr (λ e. not cc) ]
decide_kind _ _ = inr (λ e. absurd cc)

pub decide_is : (kind : TokenKind) (ts : List Lexeme) → HeadIs (Is kind) ts ⊎ HeadIsNot (Is kind) ts
decide_is kind [] = inr (λ h. h)
decide_is kind (t ∷ ts) = decide_kind t.kind kind

decide_option : {A : Type 0} (o : Option A) → ((value : A) × (o ≡ Some value)) ⊎ ((value : A) × (o ≡ Some value) → ⊥)
decide_option (Some value) = inl (value, refl)
decide_option None = inr (λ h. let e = h.1 in absurd cc)

pub decide_for : {A : Type 0} (what : TokenKind → Option A) (ts : List Lexeme) → HeadIs (HasValue what) ts ⊎ HeadIsNot (HasValue what) ts
decide_for what [] = inr (λ h. h)
decide_for what (t ∷ ts) = decide_option (what t.kind)

-- a token, and what is after it
pub known_token : (kind : TokenKind) (ts : List Lexeme) → ReadOrStuck (token kind) ts
unfolding ReadOrStuck
known_token kind [] = inr ([], token_stuck kind [] (λ h. h))
known_token kind (t ∷ ts) = go (decide_kind t.kind kind) where
  go : (t.kind ≡ kind) ⊎ (t.kind ≡ kind → ⊥) → ReadOrStuck (token kind) (t ∷ ts)
  go (inl e) = inl (t, ts, token_read kind t (t ∷ ts) ts refl e)
  go (inr n) = inr (t ∷ ts, token_stuck kind (t ∷ ts) n)

pub known_after : {B : Type 0} {s : Reader B} (kind : TokenKind) → Lawful s → (ts : List Lexeme)
    → ((left : List Lexeme) → length left < length ts → ReadOrStuck s left) → ReadOrStuck (token kind then s) ts
unfolding ReadOrStuck
known_after {s = s} kind law [] k = inr ([], then_first law (free_after free) [] [] (token_stuck kind [] (λ h. h)))
known_after {s = s} kind law (t ∷ ts) k = go (decide_kind t.kind kind) where
  more : t.kind ≡ kind → ReadOrStuck s ts → ReadOrStuck (token kind then s) (t ∷ ts)
  more e (inl h) = inl ((t, h.0), h.1, then_read (token_lawful kind) law (free_after free) (t ∷ ts) ts h.1 t h.0 (token_read kind t (t ∷ ts) ts refl e) h.2)
  more e (inr h) = inr (h.0, then_second (token_lawful kind) (free_after free) (free_loose (token kind) s free) (t ∷ ts) ts h.0 t (token_read kind t (t ∷ ts) ts refl e) h.1)

  go : (t.kind ≡ kind) ⊎ (t.kind ≡ kind → ⊥) → ReadOrStuck (token kind then s) (t ∷ ts)
  go (inl e) = more e (k ts (omega arith))
  go (inr n) = inr (t ∷ ts, then_first law (free_after free) (t ∷ ts) (t ∷ ts) (token_stuck kind (t ∷ ts) n))

pub known_chosen : {A : Type 0} (what : TokenKind → Option A) → Lawful (token_with_value what) → (ts : List Lexeme) → ReadOrStuck (token_with_value what) ts
unfolding ReadOrStuck
known_chosen what law [] = inr ([], chosen_stuck what [] law (λ h. h))
known_chosen what law (t ∷ ts) = go (decide_option (what t.kind)) where
  go : HeadIs (HasValue what) (t ∷ ts) ⊎ HeadIsNot (HasValue what) (t ∷ ts) → ReadOrStuck (token_with_value what) (t ∷ ts)
  go (inl h) = inl ((t, h.0), ts, chosen_read what h.0 t (t ∷ ts) ts refl h.1)
  go (inr n) = inr (t ∷ ts, chosen_stuck what (t ∷ ts) law n)

pub known_choice : {A B : Type 0} {s : Reader B} (what : TokenKind → Option A) → Lawful (token_with_value what) → Lawful s → (ts : List Lexeme)
    → ((left : List Lexeme) → length left < length ts → ReadOrStuck s left) → ReadOrStuck (token_with_value what then s) ts
unfolding ReadOrStuck
known_choice {s = s} what lw law [] k = inr ([], then_first law (free_after free) [] [] (chosen_stuck what [] lw (λ h. h)))
known_choice {s = s} what lw law (t ∷ ts) k = go (decide_option (what t.kind)) where
  more : (h : HeadIs (HasValue what) (t ∷ ts)) → ReadOrStuck s ts → ReadOrStuck (token_with_value what then s) (t ∷ ts)
  more c (inl h) = inl (((t, c.0), h.0), h.1, then_read lw law (free_after free) (t ∷ ts) ts h.1 (t, c.0) h.0 (chosen_read what c.0 t (t ∷ ts) ts refl c.1) h.2)
  more c (inr h) = inr (h.0, then_second lw (free_after free) (free_loose (token_with_value what) s free) (t ∷ ts) ts h.0 (t, c.0) (chosen_read what c.0 t (t ∷ ts) ts refl c.1) h.1)

  go : HeadIs (HasValue what) (t ∷ ts) ⊎ HeadIsNot (HasValue what) (t ∷ ts) → ReadOrStuck (token_with_value what then s) (t ∷ ts)
  go (inl h) = more h (k ts (omega arith))
  go (inr n) = inr (t ∷ ts, then_first law (free_after free) (t ∷ ts) (t ∷ ts) (chosen_stuck what (t ∷ ts) lw n))

-- A PRODUCTION, where it is decided whether what is left may be left
pub known_becomes : {A B : Type 0} {r : Reader A} {s : Reader B} {f : B → A} (ts : List Lexeme) → Becomes r s f ts → Lawful r → Lawful s
    → ((left other : List Lexeme) → (r.stops left → ⊥) → s.fits left other) → ((left : List Lexeme) → s.stops left → (r.stops left) ⊎ (r.stops left → ⊥))
    → ReadOrStuck s ts → ReadOrStuck r ts
unfolding ReadOrStuck
known_becomes {r = r} {s} {f} ts b lr ls fits decide (inr h) = inr (h.0, becomes_stuck ts h.0 b h.1)
known_becomes {r = r} {s} {f} ts b lr ls fits decide (inl h) = go (decide h.1 h.2.stops) where
  go : (r.stops h.1) ⊎ (r.stops h.1 → ⊥) → ReadOrStuck r ts
  go (inl stop) = inl (f h.0, h.1, becomes_read ts h.1 h.0 b h.2 stop)
  go (inr not) = inr (h.1, becomes_stopped ts h.1 h.0 b lr ls h.2 (λ other. fits h.1 other not) not)

-- WHAT MAY BE MISSING
pub known_maybe : {B : Type 0} (is : TokenKind → Type 0) {s : Reader B} → Lawful s → ((left other : List Lexeme) → s.fits left other)
    → ((ts : List Lexeme) → HeadIs is ts ⊎ HeadIsNot is ts) → (ts : List Lexeme) → s.stops ts → (HeadIs is ts → ReadOrStuck s ts) → ReadOrStuck (optional is s) ts
unfolding ReadOrStuck
known_maybe is {s} law fits decide ts stop k = go (decide ts) where
  after : HeadIs is ts → (x : _) (left : List Lexeme) → IsRead s ts x left → HeadIs is left ⊎ HeadIsNot is left → ReadOrStuck (optional is s) ts
  after h x left d (inl h') = inr (left, maybe_twice is ts left x law h (fits left) d h')
  after h x left d (inr n) = inl (Some x, left, something_read is ts left x d n)

  first : HeadIs is ts → ReadOrStuck s ts → ReadOrStuck (optional is s) ts
  first h (inl d) = after h d.0 d.1 d.2 (decide d.1)
  first h (inr d) = inr (d.0, maybe_stuck is ts d.0 h d.1)

  go : HeadIs is ts ⊎ HeadIsNot is ts → ReadOrStuck (optional is s) ts
  go (inl h) = first h (k h)
  go (inr n) = inl (None, ts, nothing_read is ts n stop)

-- a choice with what is after it, and then more: each of fewer tokens
pub known_more : {A B C : Type 0} {s : Reader B} {u : Reader C} (what : TokenKind → Option A) → Lawful (token_with_value what) → Lawful s → Lawful u
    → Behind (token_with_value what then s) u → Loose (token_with_value what then s) u → (ts : List Lexeme)
    → ((left : List Lexeme) → length left < length ts → ReadOrStuck s left) → ((left : List Lexeme) → length left < length ts → s.stops left → ReadOrStuck u left)
    → ReadOrStuck ((token_with_value what then s) then u) ts
unfolding ReadOrStuck
known_more {s = s} {u} what lw ls lu b loose [] k k' =
    inr ([], then_first lu b [] [] (then_first ls (free_after free) [] [] (chosen_stuck what [] lw (λ h. h))))
known_more {A} {B} {C} {s} {u} what lw ls lu b loose (t ∷ ts) k k' = go (decide_option (what t.kind)) where
  last : (x : (Lexeme × A) × B) (left : List Lexeme) → IsRead (token_with_value what then s) (t ∷ ts) x left → ReadOrStuck u left → ReadOrStuck ((token_with_value what then s) then u) (t ∷ ts)
  last x left d (inl h) = inl ((x, h.0), h.1, then_read (then_lawful lw ls (free_after free)) lu b (t ∷ ts) left h.1 x h.0 d h.2)
  last x left d (inr h) = inr (h.0, then_second (then_lawful lw ls (free_after free)) b loose (t ∷ ts) left h.0 x d h.1)

  more : (h : HeadIs (HasValue what) (t ∷ ts)) → ReadOrStuck s ts → ReadOrStuck ((token_with_value what then s) then u) (t ∷ ts)
  more c (inl h) =
      last ((t, c.0), h.0) h.1 (then_read lw ls (free_after free) (t ∷ ts) ts h.1 (t, c.0) h.0 (chosen_read what c.0 t (t ∷ ts) ts refl c.1) h.2)
      (k' h.1 (let le = left_length h.2 in omega (arith, le)) h.2.stops)
  more c (inr h) =
      inr (
        h.0,
        then_first lu b (t ∷ ts) h.0
            (then_second lw (free_after free) (free_loose (token_with_value what) s free) (t ∷ ts) ts h.0 (t, c.0) (chosen_read what c.0 t (t ∷ ts) ts refl c.1) h.1),
      )

  go : HeadIs (HasValue what) (t ∷ ts) ⊎ HeadIsNot (HasValue what) (t ∷ ts) → ReadOrStuck ((token_with_value what then s) then u) (t ∷ ts)
  go (inl h) = more h (k ts (omega arith))
  go (inr n) = inr (t ∷ ts, then_first lu b (t ∷ ts) (t ∷ ts) (then_first ls (free_after free) (t ∷ ts) (t ∷ ts) (chosen_stuck what (t ∷ ts) lw n)))
