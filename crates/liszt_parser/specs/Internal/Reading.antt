-- What a parser of the grammar reads, or the first token with which it cannot continue. A reader is a relation like those of the
-- grammar, between the tokens, the value that is read, and the remaining tokens. Private functions' contracts cite it.
use Rattle.std.specs.Prelude.{◌≡◌, ℕ, ◌+◌, ◌≤◌, ⊤, Bool, true, false, Option, Some, None, List, [], ◌∷◌, ◌++◌, length, drop, Result, Ok, Err}
use Rattle.liszt_base.specs.declared.answers.Refused.{Refused}
use Rattle.liszt_base.specs.declared.answers.Refused.TheVariants.{Fault, NoMemory}
use Rattle.liszt_lexer.specs.declared.token.Token.{Token}
use Rattle.liszt_lexer.specs.declared.token.TokenKind.{TokenKind}
use Rattle.liszt_parser.specs.Grammar.{Lexeme}
use Rattle.liszt_parser.specs.Internal.TokenBounds.{IsInText}
use Rattle.liszt_parser.specs.Internal.Sorts.{Ends}

-- What is read, the tokens that may remain after it, and the tokens that may replace the remaining ones.
pub record Reader (A : Type 0) : Type 1 where
  pub reads : List Lexeme → A → List Lexeme → Type 0
  pub stops : List Lexeme → Type 0
  pub fits : List Lexeme → List Lexeme → Type 0

-- Both lists are empty, or both start with the same token.
abbrev pub SameHead : List Lexeme → List Lexeme → Type 0
SameHead [] [] = ⊤
SameHead (t ∷ ts) (u ∷ us) = t ≡ u
SameHead _ _ = ⊥

-- The tokens start with those of the value, and it is read whatever tokens replace the remaining ones.
pub record IsRead {A : Type 0} (r : Reader A) (ts : List Lexeme) (e : A) (left : List Lexeme) : Type 0 where
  pub front : List Lexeme
  pub parts : ts ≡ front ++ left
  pub reads_on : (other : List Lexeme) → r.fits left other → r.reads (front ++ other) e other
  pub stops : r.stops left

-- Some tokens continue those before the place, but with the token there, or the end, no value is read after which reading may stop.
pub record IsStuck {A : Type 0} (r : Reader A) (ts at : List Lexeme) : Type 0 where
  pub front : List Lexeme
  pub parts : ts ≡ front ++ at
  pub more : List Lexeme
  pub whole : A
  pub continues : (left : List Lexeme) → r.reads (front ++ (more ++ left)) whole left
  pub ends_here : (other left : List Lexeme) (e : A) → SameHead at other → r.reads (front ++ other) e left → r.stops left → ⊥

-- OUTCOMES of a parser that starts at an index and reads at least n tokens
abbrev pub Fails : {A : Type 0} → Reader A → List Lexeme → ℕ → Refused ℕ → Type 0
Fails r ts at (Fault place) = (place ≤ length ts) × IsStuck r (drop at ts) (drop place ts)
Fails r ts at NoMemory = ⊤

abbrev pub Outcome : {A T : Type 0} → ℕ → Reader A → (T → A) → List Lexeme → ℕ → Result (T × ℕ) (Refused ℕ) → Type 0
Outcome least r tree ts at (Ok x) = (at + least ≤ x.1) × (x.1 ≤ length ts) × IsRead r (drop at ts) (tree x.0) (drop x.1 ts)
Outcome least r tree ts at (Err refused) = Fails r ts at refused

-- The same where it is not yet known whether the remaining tokens may remain. If not, the parser is stuck there.
abbrev pub Settled : {A T : Type 0} → Reader A → (T → A) → List Lexeme → ℕ → Result (T × ℕ) (Refused ℕ) → Type 0
Settled r tree ts at (Ok x) =
    (at + 1 ≤ x.1) × (x.1 ≤ length ts) × (r.stops (drop x.1 ts) → IsRead r (drop at ts) (tree x.0) (drop x.1 ts))
    × ((r.stops (drop x.1 ts) → ⊥) → IsStuck r (drop at ts) (drop x.1 ts))
Settled r tree ts at (Err refused) = Fails r ts at refused

-- The token at an index.
abbrev pub Sees : List ℕ → List Lexeme → (Token → Lexeme) → ℕ → Option Token → Type 0
Sees text ts lexeme at (Some t) = (drop at ts ≡ lexeme t ∷ drop (at + 1) ts) × (at + 1 ≤ length ts) × IsInText text t
Sees text ts lexeme at None = drop at ts ≡ []

-- The kind of the first token has a property, or not.
abbrev pub HeadIs : (TokenKind → Type 0) → List Lexeme → Type 0
HeadIs is [] = ⊥
HeadIs is (t ∷ ts) = is t.kind

abbrev pub HeadIsNot : (TokenKind → Type 0) → List Lexeme → Type 0
HeadIsNot is ts = HeadIs is ts → ⊥

-- The first token has this kind or not; its value, if any.
abbrev pub Is : TokenKind → TokenKind → Type 0
Is kind k = k ≡ kind

abbrev pub IsAt : TokenKind → List Lexeme → Bool → Type 0
IsAt kind ts true = HeadIs (Is kind) ts
IsAt kind ts false = HeadIsNot (Is kind) ts

-- A list of statements ends before the first token, or not.
abbrev pub EndsAt : List Lexeme → Bool → Type 0
EndsAt ts true = Ends ts
EndsAt ts false = Ends ts → ⊥

abbrev pub HasValue : {A : Type 0} → (TokenKind → Option A) → TokenKind → Type 0
HasValue {A} what kind = (value : A) × (what kind ≡ Some value)

abbrev pub Chooses : {A : Type 0} → (TokenKind → Option A) → (Token → Lexeme) → List Lexeme → ℕ → Option ((Token × A) × ℕ) → Type 0
Chooses what lexeme ts at (Some x) =
    (drop at ts ≡ lexeme x.0.0 ∷ drop x.1 ts) × (at + 1 ≤ x.1) × (x.1 ≤ length ts) × (what (lexeme x.0.0).kind ≡ Some x.0.1)
Chooses what lexeme ts at None = HeadIsNot (HasValue what) (drop at ts)

-- READERS of one token, of two readers in sequence, of a value that is mapped, and of an optional value
abbrev pub anything : List Lexeme → Type 0
anything left = ⊤

abbrev pub any_other : List Lexeme → List Lexeme → Type 0
any_other left other = ⊤

abbrev pub token : TokenKind → Reader Lexeme
token kind = record { reads = λ ts t left. (ts ≡ t ∷ left) × (t.kind ≡ kind); stops = anything; fits = any_other }

abbrev pub token_with_value : {A : Type 0} → (TokenKind → Option A) → Reader (Lexeme × A)
token_with_value what = record { reads = λ ts x left. (ts ≡ x.0 ∷ left) × (what x.0.kind ≡ Some x.1); stops = anything; fits = any_other }

infixr 5 ◌then◌
abbrev pub ◌then◌ : {A B : Type 0} → Reader A → Reader B → Reader (A × B)
r then s =
    record {
      reads = λ ts x left. (mid : List Lexeme) × r.reads ts x.0 mid × s.reads mid x.1 left;
      stops = s.stops;
      fits = s.fits;
    }

abbrev pub mapped_reader : {A B : Type 0} → (B → A) → Reader B → Reader A
mapped_reader {B = B} f s =
    record { reads = λ ts e left. (x : B) × s.reads ts x left × (e ≡ f x); stops = s.stops; fits = s.fits }

abbrev pub ReadsOptional : {B : Type 0} → Reader B → List Lexeme → Option B → List Lexeme → Type 0
ReadsOptional s ts None left = ts ≡ left
ReadsOptional s ts (Some x) left = s.reads ts x left

abbrev pub optional : {B : Type 0} → (TokenKind → Type 0) → Reader B → Reader (Option B)
optional begins s = record { reads = ReadsOptional s; stops = λ left. HeadIsNot begins left × s.stops left; fits = s.fits }
