-- The steps of a parser that reads one thing after the other: what fails at a step fails as a whole.
use Rattle.std.proofs.Common.{◌≡◌, ℕ, List, drop, sym, ap, subst, ◌∙◌}
use Rattle.std.specs.Prelude.{Result, Ok, Err}
use Rattle.std.specs.Result.{IsErrAnd}
use Rattle.std.proofs.lemmas.Result.{err_from_is_err_and}
use Rattle.liszt_base.specs.declared.answers.Refused.{Refused}
use Rattle.liszt_lexer.specs.declared.token.TokenKind.{TokenKind}
use Rattle.liszt_parser.specs.Grammar.{Lexeme}
use Rattle.liszt_parser.specs.Internal.Reading.{Reader, IsRead, Fails, Outcome, Settled, token, ◌then◌, mapped_reader}
use Rattle.liszt_parser.proofs.Readers.{Lawful, Free, Becomes, then_read, then_lawful, free_after, free_loose, becomes_read, becomes_stopped}
use Rattle.liszt_parser.proofs.TokenReaders.{first_fails, second_fails, mapped_fails, becomes_fails, token_lawful, free}

-- the outcome where a part gave none
pub leaves : {A T : Type 0} (least : ℕ) (r : Reader A) (tree : T → A) (ts : List Lexeme) (at : ℕ) (result : Result (T × ℕ) (Refused ℕ))
    (refused : Refused ℕ) → IsErrAnd result (λ e. e ≡ refused) → Fails r ts at refused → Outcome least r tree ts at result
leaves least r tree ts at result refused e h =
    let p = err_from_is_err_and result e in subst (Outcome least r tree ts at) (sym (p.1 ∙ ap Err p.2)) h

-- A PART after which anything may stand
pub record Part {A : Type 0} (r : Reader A) : Type 0 where
  pub law : Lawful r
  pub free : Free r

pub part_lawful : {A B : Type 0} {r : Reader A} {s : Reader B} → Part r → Lawful s → Lawful (r then s)
part_lawful p law = then_lawful p.law law (free_after p.free)

pub part_fails : {A B : Type 0} {r : Reader A} {s : Reader B} → Part r → Lawful s → (ts : List Lexeme) (at : ℕ) (refused : Refused ℕ)
    → Fails r ts at refused → Fails (r then s) ts at refused
part_fails p law ts at refused h = first_fails law (free_after p.free) ts at refused h

pub part_then : {A B : Type 0} {r : Reader A} {s : Reader B} → Part r → Lawful s → (ts : List Lexeme) (at mid : ℕ) (e : A) (refused : Refused ℕ)
    → IsRead r (drop at ts) e (drop mid ts) → Fails s ts mid refused → Fails (r then s) ts at refused
part_then {r = r} {s} p law ts at mid e refused d h =
    second_fails p.law (free_after p.free) (free_loose r s p.free) ts at mid e refused d h

pub part_read : {A B : Type 0} {r : Reader A} {s : Reader B} → Part r → Lawful s → (ts mid left : List Lexeme) (e : A) (x : B)
    → IsRead r ts e mid → IsRead s mid x left → IsRead (r then s) ts (e, x) left
part_read p law ts mid left e x d k = then_read p.law law (free_after p.free) ts mid left e x d k

pub token_part : (kind : TokenKind) → Part (token kind)
token_part kind = record { law = token_lawful kind; free = free }

pub map_fails : {A B : Type 0} {s : Reader B} (f : B → A) → Lawful s → (ts : List Lexeme) (at : ℕ) (refused : Refused ℕ)
    → Fails s ts at refused → Fails (mapped_reader f s) ts at refused
map_fails {s = s} f law ts at refused h = mapped_fails s f ts at refused h

-- A PRODUCTION that is read, where it is not known yet whether what is left may be left
pub settles : {A B T : Type 0} {r : Reader A} {s : Reader B} {f : B → A} (tree : T → A) (part : T → B) → ((t : T) → f (part t) ≡ tree t)
    → Lawful r → Lawful s → ((left other : List Lexeme) → (r.stops left → ⊥) → s.fits left other) → (ts : List Lexeme) (at : ℕ)
    (result : Result (T × ℕ) (Refused ℕ)) → Becomes r s f (drop at ts) → Outcome 1 s part ts at result → Settled r tree ts at result
settles {r = r} tree part same law law' fits ts at (Ok x) b h = (
  h.0,
  h.1,
  λ stop. subst (λ e. IsRead r (drop at ts) e (drop x.1 ts)) (same x.0) (becomes_read (drop at ts) (drop x.1 ts) (part x.0) b h.2 stop),
  λ not. becomes_stopped (drop at ts) (drop x.1 ts) (part x.0) b law law' h.2 (λ other. fits (drop x.1 ts) other not) not,
)
settles tree part same law law' fits ts at (Err refused) b h = becomes_fails ts at refused b h

-- and where that does not matter, as its tree
pub gives : {A B : Type 0} {r : Reader A} {s : Reader B} {f : B → A} (e : A) (ts left : List Lexeme) (x : B) → f x ≡ e → Becomes r s f ts
    → r.stops left → IsRead s ts x left → IsRead r ts e left
gives {r = r} e ts left x is b stop d = subst (λ e. IsRead r ts e left) is (becomes_read ts left x b d stop)

pub takes : {A B T : Type 0} {r : Reader A} {s : Reader B} {f : B → A} (least : ℕ) (tree : T → A) (part : T → B) → ((t : T) → f (part t) ≡ tree t)
    → ((left : List Lexeme) → s.stops left → r.stops left) → (ts : List Lexeme) (at : ℕ) (result : Result (T × ℕ) (Refused ℕ))
    → Becomes r s f (drop at ts) → Outcome least s part ts at result → Outcome least r tree ts at result
takes least tree part same stops ts at (Ok x) b h =
    (h.0, h.1, gives (tree x.0) (drop at ts) (drop x.1 ts) (part x.0) (same x.0) b (stops (drop x.1 ts) h.2.stops) h.2)
takes least tree part same stops ts at (Err refused) b h = becomes_fails ts at refused b h
