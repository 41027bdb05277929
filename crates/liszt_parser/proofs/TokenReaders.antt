-- The readers of one token, and of what may be missing, and how what fails in a part fails as a whole.
use Rattle.std.proofs.Common.{◌≡◌, ℕ, Option, Some, None, List, [], ◌∷◌, ◌++◌, length, drop, refl, sym, ap, subst, ◌∙◌, arith}
use Rattle.liszt_base.specs.declared.answers.Refused.{Refused}
use Rattle.liszt_base.specs.declared.answers.Refused.TheVariants.{Fault, NoMemory}
use Rattle.liszt_lexer.specs.declared.token.TokenKind.{TokenKind}
use Rattle.liszt_parser.specs.Grammar.{Lexeme}
use Rattle.liszt_parser.specs.Internal.Reading.{HeadIsNot, Reader, SameHead, IsRead, IsStuck, Fails, anything, any_other, token, token_with_value, ◌then◌, mapped_reader, HeadIs, Is, HasValue, ReadsOptional, optional}
use Rattle.liszt_parser.proofs.Readers.{same_pair, Lawful, Behind, Free, Loose, Becomes, same_back, same_after, head_by, then_first, then_second, mapped_stuck, becomes_stuck, stuck_at_once}

-- ONE TOKEN
pub free : {A : Type 0} {reads : List Lexeme → A → List Lexeme → Type 0} → Free (record { reads = reads; stops = anything; fits = any_other })
free = record { stops = λ left. tt; fits = λ left other. tt }

-- something of the kind, for a completion
abbrev pub of_kind : TokenKind → Lexeme
of_kind kind = record { kind = kind; place = record { line = 0; col = 0 }; bytes = [] }

pub token_lawful : (kind : TokenKind) → Lawful (token kind)
token_lawful kind =
    record {
      one = λ ts left left' e e' d stop d' stop'. let same : e ∷ left ≡ e' ∷ left' = sym d.0 ∙ d'.0 in (cc, cc);
      by_head = λ left other h stop. tt;
      fits_head = λ left other h. tt;
      tokens = of_kind kind ∷ [];
      some = of_kind kind;
      reads_some = λ left. (refl, refl);
    }

pub chosen_lawful : {A : Type 0} (what : TokenKind → Option A) (kind : TokenKind) (value : A) → what kind ≡ Some value → Lawful (token_with_value what)
chosen_lawful what kind value is =
    record {
      one = λ ts left left' e e' d stop d' stop'. same what ts left left' e e' d.0 d.1 d'.0 d'.1;
      by_head = λ left other h stop. tt;
      fits_head = λ left other h. tt;
      tokens = of_kind kind ∷ [];
      some = (of_kind kind, value);
      reads_some = λ left. (refl, is);
    }
  where
    same : {A : Type 0} (what : TokenKind → Option A) (ts left left' : List Lexeme) (e e' : Lexeme × A) → ts ≡ e.0 ∷ left → what e.0.kind ≡ Some e.1
        → ts ≡ e'.0 ∷ left' → what e'.0.kind ≡ Some e'.1 → (e ≡ e') × (left ≡ left')
    same what ts left left' e e' p h p' h' =
        let tokens : e.0 ∷ left ≡ e'.0 ∷ left' = sym p ∙ p' in
        let heads : e.0 ≡ e'.0 = cc in
        let some : Some e.1 ≡ Some e'.1 = sym h ∙ ap (λ (t : Lexeme). what t.kind) heads ∙ h' in
        let values : e.1 ≡ e'.1 = cc in
        let lefts : left ≡ left' = cc in
        (same_pair e e' heads values, lefts)

-- a token is read, and what is another is stuck
pub token_read : (kind : TokenKind) (t : Lexeme) (ts left : List Lexeme) → ts ≡ t ∷ left → t.kind ≡ kind → IsRead (token kind) ts t left
token_read kind t ts left e h = record { front = t ∷ []; parts = e; reads_on = λ other k. (refl, h); stops = tt }

pub chosen_read : {A : Type 0} (what : TokenKind → Option A) (value : A) (t : Lexeme) (ts left : List Lexeme) → ts ≡ t ∷ left
    → what t.kind ≡ Some value → IsRead (token_with_value what) ts (t, value) left
chosen_read what value t ts left e h = record { front = t ∷ []; parts = e; reads_on = λ other k. (refl, h); stops = tt }

-- no token of the kind is the first
not_first : (is : TokenKind → Type 0) (ts other left : List Lexeme) (t : Lexeme) → HeadIsNot is ts → SameHead ts other → other ≡ t ∷ left
    → is t.kind → ⊥
not_first is ts other left t n h e k = n (head_by is other ts (same_back ts other h) (subst (HeadIs is) (sym e) k))

pub token_stuck : (kind : TokenKind) (ts : List Lexeme) → HeadIsNot (Is kind) ts → IsStuck (token kind) ts ts
token_stuck kind ts n =
    stuck_at_once (token kind) ts (token_lawful kind) (λ other left e h d stop. not_first (Is kind) ts other left e n h d.0 d.1)

pub chosen_stuck : {A : Type 0} (what : TokenKind → Option A) (ts : List Lexeme) → Lawful (token_with_value what) → HeadIsNot (HasValue what) ts
    → IsStuck (token_with_value what) ts ts
chosen_stuck what ts law n =
    stuck_at_once (token_with_value what) ts law (λ other left e h d stop. not_first (HasValue what) ts other left e.0 n h d.0 (e.1, d.1))

-- a token is never read as nothing
longer : {A : Type 0} (x : A) (l : List A) → l ≡ x ∷ l → ⊥
longer x l e = let lengths = ap length e in absurd (omega arith)

pub token_after : {A : Type 0} {r : Reader A} (kind : TokenKind) → ((t : Lexeme) (left : List Lexeme) → t.kind ≡ kind → r.stops (t ∷ left))
    → Behind r (token kind)
token_after {r} kind h =
    record {
      stops = λ mid left x d stop. subst r.stops (sym d.0) (h x left d.1);
      fits = λ mid other x d k. absurd (longer x mid d.0);
    }

-- WHAT MAY BE MISSING
-- what a reader begins with, and always does
unfoldable pub IsProgramPrefix : {B : Type 0} → (TokenKind → Type 0) → Reader B → Type 0
IsProgramPrefix {B = B} is s = (ts left : List Lexeme) (x : B) → s.reads ts x left → HeadIs is ts

pub maybe_lawful : {B : Type 0} (is : TokenKind → Type 0) {s : Reader B} → Lawful s → IsProgramPrefix is s → Lawful (optional is s)
unfolding IsProgramPrefix
maybe_lawful {B} is {s} law begins =
    record {
      one = same;
      by_head = λ left other h stop. (λ k. stop.0 (head_by is other left (same_back left other h) k), law.by_head left other h stop.1);
      fits_head = law.fits_head;
      tokens = law.tokens;
      some = Some law.some;
      reads_some = law.reads_some;
    }
  where
    same : (ts left left' : List Lexeme) (e e' : Option B) → ReadsOptional s ts e left → HeadIsNot is left × s.stops left → ReadsOptional s ts e' left'
        → HeadIsNot is left' × s.stops left' → (e ≡ e') × (left ≡ left')
    same ts left left' None None d stop d' stop' = (refl, sym d ∙ d')
    same ts left left' None (Some x) d stop d' stop' = absurd (stop.0 (subst (HeadIs is) d (begins ts left' x d')))
    same ts left left' (Some x) None d stop d' stop' = absurd (stop'.0 (subst (HeadIs is) d' (begins ts left x d)))
    same ts left left' (Some x) (Some y) d stop d' stop' = let a = law.one ts left left' x y d stop.1 d' stop'.1 in (ap Some a.0, a.1)

pub nothing_read : {B : Type 0} (is : TokenKind → Type 0) {s : Reader B} (ts : List Lexeme) → HeadIsNot is ts → s.stops ts
    → IsRead (optional is s) ts None ts
nothing_read is ts h stop = record { front = []; parts = refl; reads_on = λ other k. refl; stops = (h, stop) }

pub something_read : {B : Type 0} (is : TokenKind → Type 0) {s : Reader B} (ts left : List Lexeme) (x : B) → IsRead s ts x left
    → HeadIsNot is left → IsRead (optional is s) ts (Some x) left
something_read is ts left x d h = record { front = d.front; parts = d.parts; reads_on = d.reads_on; stops = (h, d.stops) }

-- what begins with it is read as it
begins_it : {B : Type 0} (is : TokenKind → Type 0) (s : Reader B) (ts front at other left : List Lexeme) (e : Option B) → HeadIs is ts
    → ts ≡ front ++ at → SameHead at other → ReadsOptional s (front ++ other) e left → HeadIsNot is left
    → (x : B) × s.reads (front ++ other) x left
begins_it is s ts front at other left None h e k d n =
    absurd (n (subst (HeadIs is) d (head_by is (front ++ at) (front ++ other) (same_after front at other k) (subst (HeadIs is) e h))))
begins_it is s ts front at other left (Some x) h e k d n = (x, d)

pub maybe_stuck : {B : Type 0} (is : TokenKind → Type 0) {s : Reader B} (ts at : List Lexeme) → HeadIs is ts → IsStuck s ts at
    → IsStuck (optional is s) ts at
maybe_stuck is {s} ts at h d =
    record {
      front = d.front;
      parts = d.parts;
      more = d.more;
      whole = Some d.whole;
      continues = d.continues;
      ends_here = λ other left e k m stop.
          let x = begins_it is s ts d.front at other left e h d.parts k m stop.0 in d.ends_here other left x.0 k x.1 stop.1;
    }

-- it is read, but with one more of it after it
pub maybe_twice : {B : Type 0} (is : TokenKind → Type 0) {s : Reader B} (ts left : List Lexeme) (x : B) → Lawful s → HeadIs is ts
    → ((other : List Lexeme) → s.fits left other) → IsRead s ts x left → HeadIs is left → IsStuck (optional is s) ts left
maybe_twice {B} is {s} ts left x law h fits d again =
    record {
      front = d.front;
      parts = d.parts;
      more = [];
      whole = Some x;
      continues = λ left. d.reads_on left (fits left);
      ends_here = ends;
    }
  where
    ends : (other left' : List Lexeme) (e : Option B) → SameHead left other → ReadsOptional s (d.front ++ other) e left'
        → HeadIsNot is left' × s.stops left' → ⊥
    ends other left' e k m stop =
        let y = begins_it is s ts d.front left other left' e h d.parts k m stop.0 in
        let same = law.one (d.front ++ other) other left' x y.0 (d.reads_on other (fits other)) (law.by_head left other k d.stops) y.1 stop.1 in
        stop.0 (subst (HeadIs is) same.1 (head_by is left other k again))

-- FAILURES
pub fails_by : {A B : Type 0} (r : Reader A) (s : Reader B) (ts : List Lexeme) (at at' : ℕ)
    → ((place : ℕ) → IsStuck s (drop at' ts) (drop place ts) → IsStuck r (drop at ts) (drop place ts)) → (refused : Refused ℕ)
    → Fails s ts at' refused → Fails r ts at refused
fails_by r s ts at at' f (Fault place) h = (h.0, f place h.1)
fails_by r s ts at at' f NoMemory h = tt

pub mapped_fails : {A B : Type 0} (s : Reader B) (f : B → A) (ts : List Lexeme) (at : ℕ) (refused : Refused ℕ) → Fails s ts at refused
    → Fails (mapped_reader f s) ts at refused
mapped_fails s f ts at refused h = fails_by (mapped_reader f s) s ts at at (λ place d. mapped_stuck f (drop at ts) (drop place ts) d) refused h

pub first_fails : {A B : Type 0} {r : Reader A} {s : Reader B} → Lawful s → Behind r s → (ts : List Lexeme) (at : ℕ) (refused : Refused ℕ)
    → Fails r ts at refused → Fails (r then s) ts at refused
first_fails {r = r} {s} law b ts at refused h = fails_by (r then s) r ts at at (λ place d. then_first law b (drop at ts) (drop place ts) d) refused h

pub second_fails : {A B : Type 0} {r : Reader A} {s : Reader B} → Lawful r → Behind r s → Loose r s → (ts : List Lexeme) (at mid : ℕ) (e : A)
    (refused : Refused ℕ) → IsRead r (drop at ts) e (drop mid ts) → Fails s ts mid refused → Fails (r then s) ts at refused
second_fails {r = r} {s} law b loose ts at mid e refused d h =
    fails_by (r then s) s ts at mid (λ place d'. then_second law b loose (drop at ts) (drop mid ts) (drop place ts) e d d') refused h

pub becomes_fails : {A B : Type 0} {r : Reader A} {s : Reader B} {f : B → A} (ts : List Lexeme) (at : ℕ) (refused : Refused ℕ)
    → Becomes r s f (drop at ts) → Fails s ts at refused → Fails r ts at refused
becomes_fails {r = r} {s} ts at refused b h = fails_by r s ts at at (λ place d. becomes_stuck (drop at ts) (drop place ts) b d) refused h
