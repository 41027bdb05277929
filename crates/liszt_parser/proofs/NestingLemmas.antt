-- The depth kept from token to token is the depth of the tokens so far.
use Rattle.std.proofs.Common.{◌≡◌, suc, ℕ, ◌+◌, ◌-◌, ◌<◌, ◌≤◌, ◌==◌, ◌&&◌, ◌||◌, if◌then◌else◌, Bool, true, false, Option, Some, None, List, [], ◌∷◌, ◌++◌, length, take, get_or, below_more, refl, sym, ap, subst, ◌∙◌, arith}
use mir.Val.{bool_byte}
use Rattle.std.specs.Prelude.{⊤, cond, not, nat_lt}
use Rattle.std.specs.List.{All, cons_option, count_by, sum_by, filter_map}
use Rattle.std.proofs.lemmas.Bool.Decides.{nat_tests}
use Rattle.std.proofs.lemmas.List.{length-map, get_or-map, append_assoc, append-nil, take_more}
use Rattle.std.proofs.lemmas.List.Sums.{sum_by-append, sum_by-cons}
use Rattle.std.proofs.lemmas.List.Recursion.{is_count_by}
use Rattle.std.proofs.lemmas.List.Elements.{filter_map-append, All-nil, All-cons, All-append}
use Rattle.liszt_base.specs.declared.answers.Place.{Place}
use Rattle.liszt_lexer.specs.declared.token.Token.{Token}
use Rattle.liszt_lexer.specs.declared.token.TokenKind.{TokenKind}
use Rattle.liszt_lexer.specs.declared.token.TokenKind.TheVariants.{Name as NameToken, Number as NumberToken, Word, Symbol, MinSet, MaxSet}
use Rattle.liszt_parser.specs.declared.operand.Nesting.{Nesting}
use Rattle.liszt_parser.specs.declared.operand.Operand.{Operand}
use Rattle.liszt_parser.specs.declared.operand.Operand.TheVariants.{Awaited, Named, Worded, Inside, Never}
use Rattle.liszt_parser.specs.Depth.{is_symbol, is_opening, is_closing, is_prefix, is_operand_end, holds_operand, pending_prefixes, depth}
use Rattle.liszt_parser.specs.Grammar.{Lexeme, lexeme, lexemes}
use Rattle.liszt_parser.specs.Internal.Nesting.{ends_by, waiting_operands, IsNesting, IsCounted, IsFirstDeep}
use Rattle.liszt_parser.specs.Internal.Operands.{is_named, is_symbol_kind, nested_brackets, operand_step, operands_step, operand_start, kind_ends_operand}
use Rattle.liszt_base.specs.Limits.{depth_limit}

-- THE OPERAND. What one token makes of it ends by the tokens after that exactly where it ended by all.
abbrev pub ended_by : Option Operand → List Lexeme → Bool
ended_by None ts = true
ended_by (Some o) ts = ends_by o ts

operand_start_ends : (kind : TokenKind) (place : Place) (bytes : List ℕ) (ts : List Lexeme)
    → ended_by (operand_start kind) ts ≡ holds_operand (record { kind = kind; place = place; bytes = bytes } ∷ ts)
operand_start_ends (NumberToken n) p b ts = refl
operand_start_ends NameToken p b ts = refl
operand_start_ends (Word place) p b [] = refl
operand_start_ends (Word place) p b (t ∷ ts) = refl
operand_start_ends (Symbol place) p b ts = grind (arith, nat_tests)
operand_start_ends MinSet p b ts = refl
operand_start_ends MaxSet p b ts = refl

named_ends : (kind : TokenKind) (place : Place) (bytes : List ℕ) (ts : List Lexeme)
    → ended_by (operand_step Named kind) ts ≡ ends_by Named (record { kind = kind; place = place; bytes = bytes } ∷ ts)
named_ends (Symbol place) p b ts = grind arith
named_ends _ p b ts = refl

worded_ends : (kind : TokenKind) (place : Place) (bytes : List ℕ) (ts : List Lexeme)
    → ended_by (operand_step Worded kind) ts ≡ ends_by Worded (record { kind = kind; place = place; bytes = bytes } ∷ ts)
worded_ends (Symbol place) p b ts = grind arith
worded_ends _ p b ts = refl

inside_ends : (nested : ℕ) (kind : TokenKind) (place : Place) (bytes : List ℕ) (ts : List Lexeme)
    → ended_by (operand_step (Inside nested) kind) ts ≡ ends_by (Inside nested) (record { kind = kind; place = place; bytes = bytes } ∷ ts)
inside_ends nested (Symbol place) p b ts = grind arith
inside_ends nested _ p b ts = refl

step_ends : (o : Operand) (t : Lexeme) (ts : List Lexeme) → ended_by (operand_step o t.kind) ts ≡ ends_by o (t ∷ ts)
step_ends Awaited t ts = operand_start_ends t.kind t.place t.bytes ts
step_ends Named t ts = named_ends t.kind t.place t.bytes ts
step_ends Worded t ts = worded_ends t.kind t.place t.bytes ts
step_ends (Inside nested) t ts = inside_ends nested t.kind t.place t.bytes ts
step_ends Never t ts = refl

-- THE LISTS. One operand more gives what it steps to, or nothing.
filtered_more : {X Y : Type 0} (h : X → Option Y) (xs : List X) (i : ℕ) (d : X) → i < length xs
    → filter_map h (take (i + 1) xs) ≡ filter_map h (take i xs) ++ filter_map h (get_or xs i d ∷ [])
filtered_more h xs i d lt = ap (filter_map h) (take_more xs i d lt) ∙ filter_map-append h (take i xs) (get_or xs i d ∷ [])

pub keeps : {X Y : Type 0} (h : X → Option Y) (xs : List X) (i : ℕ) (d : X) (y : Y) → i < length xs → h (get_or xs i d) ≡ Some y
    → filter_map h (take (i + 1) xs) ≡ filter_map h (take i xs) ++ y ∷ []
keeps h xs i d y lt e = filtered_more h xs i d lt ∙ ap (λ o. filter_map h (take i xs) ++ cons_option o []) e

pub drops : {X Y : Type 0} (h : X → Option Y) (xs : List X) (i : ℕ) (d : X) → i < length xs → h (get_or xs i d) ≡ None
    → filter_map h (take (i + 1) xs) ≡ filter_map h (take i xs)
drops h xs i d lt e = filtered_more h xs i d lt ∙ ap (λ o. filter_map h (take i xs) ++ cons_option o []) e ∙ append-nil (filter_map h (take i xs))

-- WAITING. The operands that a token leaves wait for the tokens after it as they waited for it and those.
one_waits : (t : Lexeme) (o : Operand) (os : List Operand) (ts : List Lexeme)
    → waiting_operands (filter_map (λ o. operand_step o t.kind) os) ts ≡ waiting_operands os (t ∷ ts) → (next : Option Operand) → operand_step o t.kind ≡ next
    → waiting_operands (cons_option next (filter_map (λ o. operand_step o t.kind) os)) ts ≡ waiting_operands (o ∷ os) (t ∷ ts)
one_waits t o os ts rest None e =
    let whole : ends_by o (t ∷ ts) ≡ true = sym (step_ends o t ts) ∙ ap (λ n. ended_by n ts) e in
    let now : waiting_operands (o ∷ os) (t ∷ ts) ≡ 0 + waiting_operands os (t ∷ ts) = ap (λ b. (if b then 0 else 1) + waiting_operands os (t ∷ ts)) whole in
    omega arith
one_waits t o os ts rest (Some next) e =
    let same : ends_by next ts ≡ ends_by o (t ∷ ts) = sym (ap (λ n. ended_by n ts) e) ∙ step_ends o t ts in
    ap (λ n. (if ends_by next ts then 0 else 1) + n) rest ∙ ap (λ b. (if b then 0 else 1) + waiting_operands os (t ∷ ts)) same

stepped_waits : (t : Lexeme) (os : List Operand) (ts : List Lexeme) → waiting_operands (filter_map (λ o. operand_step o t.kind) os) ts ≡ waiting_operands os (t ∷ ts)
stepped_waits t [] ts = refl
stepped_waits t (o ∷ os) ts = one_waits t o os ts (stepped_waits t os ts) (operand_step o t.kind) refl

waiting_operands-append : (os more : List Operand) (ts : List Lexeme) → waiting_operands (os ++ more) ts ≡ waiting_operands os ts + waiting_operands more ts
waiting_operands-append [] more ts = omega arith
waiting_operands-append (o ∷ os) more ts = let rest = waiting_operands-append os more ts in omega arith

-- without a token a name alone is whole
one_primary : (o : Operand) (os : List Operand) → waiting_operands (o ∷ os) [] ≡ (if not (is_named o) then 1 + waiting_operands os [] else waiting_operands os [])
one_primary Awaited os = refl
one_primary Named os = omega arith
one_primary Worded os = refl
one_primary (Inside nested) os = refl
one_primary Never os = refl

waiting_primary : (os : List Operand) → waiting_operands os [] ≡ count_by (λ o. not (is_named o)) os
waiting_primary os = is_count_by (λ os. waiting_operands os []) (λ o. not (is_named o)) refl one_primary os

pub operands_step_waits : (front : List Lexeme) (last : Option Lexeme) (os : List Operand) (t : Lexeme)
    → ((more : List Lexeme) → pending_prefixes None (front ++ more) ≡ waiting_operands os more + pending_prefixes last more)
    → (more : List Lexeme) → pending_prefixes None ((front ++ t ∷ []) ++ more) ≡ waiting_operands (operands_step (is_prefix last t) os t.kind) more + pending_prefixes (Some t) more
operands_step_waits front last os t waits more =
    let before = ap (pending_prefixes None) (append_assoc front (t ∷ []) more) ∙ waits (t ∷ more) in
    let parts = waiting_operands-append (filter_map (λ o. operand_step o t.kind) os) (if is_prefix last t then Awaited ∷ [] else []) more in
    let same = stepped_waits t os more in
    grind arith

-- the depth by the counts
pub depth_is : (front : List Lexeme) (last : Option Lexeme) (os : List Operand)
    → ((more : List Lexeme) → pending_prefixes None (front ++ more) ≡ waiting_operands os more + pending_prefixes last more)
    → depth front ≡ (count_by is_opening front - count_by is_closing front) + count_by (λ o. not (is_named o)) os
depth_is front last os waits =
    let all = ap (pending_prefixes None) (append-nil front) in
    let none = waits [] in
    let primary_expression = waiting_primary os in
    omega arith

-- and whether it is above 64
pub deep_by : (brackets operands depth : ℕ) → brackets ≤ depth_limit → depth ≡ brackets + operands → nat_lt (depth_limit - brackets) operands ≡ nat_lt depth_limit depth
deep_by brackets operands depth h e = grind (arith, nat_tests)

-- ONE TOKEN MORE. The tests of a token are those of its kind.
symbol_is : (n : ℕ) (kind : TokenKind) (place : Place) (bytes : List ℕ)
    → is_symbol n (record { kind = kind; place = place; bytes = bytes }) ≡ is_symbol_kind n kind
symbol_is n (Symbol place) p b = refl
symbol_is n _ p b = refl

symbol_of : (n : ℕ) (t : Lexeme) → is_symbol n t ≡ is_symbol_kind n t.kind
symbol_of n t = symbol_is n t.kind t.place t.bytes

ends_operand_is : (kind : TokenKind) (place : Place) (bytes : List ℕ)
    → is_operand_end (Some (record { kind = kind; place = place; bytes = bytes })) ≡ kind_ends_operand kind
ends_operand_is (NumberToken n) p b = refl
ends_operand_is NameToken p b = refl
ends_operand_is (Symbol place) p b = refl
ends_operand_is _ p b = refl

counted : (p : Lexeme → Bool) (xs : List Lexeme) (x : Lexeme) → count_by p (xs ++ x ∷ []) ≡ count_by p xs + (if p x then 1 else 0)
counted p xs x =
    let one : sum_by (λ x. cond (p x) 1 0) (x ∷ []) ≡ cond (p x) 1 0 = omega (arith, sum_by-cons (λ x. cond (p x) 1 0) x []) in
    sum_by-append (λ x. cond (p x) 1 0) xs (x ∷ []) ∙ ap (λ n. count_by p xs + n) one

-- whether a token opens or closes, as a number
abbrev pub opens_by : TokenKind → Bool
opens_by kind = is_symbol_kind 0 kind || is_symbol_kind 2 kind

abbrev pub closes_by : TokenKind → Bool
closes_by kind = is_symbol_kind 1 kind || is_symbol_kind 3 kind

abbrev pub one_if : Bool → ℕ
one_if b = if b then 1 else 0

pub byte_is : (b : Bool) → bool_byte b ≡ one_if b
byte_is true = refl
byte_is false = refl

-- an operand is nested no deeper than brackets opened
abbrev NestedIn : ℕ → Option Operand → Type 0
NestedIn n None = ⊤
NestedIn n (Some o) = nested_brackets o ≤ n

operand_start_pick : (is_open is_prefix other : Bool) (n : ℕ)
    → nested_brackets (if is_open then Inside 1 else if is_prefix then Awaited else Never) ≤ n + one_if (is_open || other)
operand_start_pick true is_prefix other n = omega arith
operand_start_pick false true other n = omega arith
operand_start_pick false false other n = omega arith

inside_pick : (whole is_open is_close other : Bool) (nested n : ℕ) → nested ≤ n
    → NestedIn (n + one_if (is_open || other))
    (if whole then None else Some (Inside (if is_open then nested + 1 else if is_close then nested - 1 else nested)))
inside_pick true is_open is_close other nested n h = tt
inside_pick false true is_close other nested n h = omega arith
inside_pick false false true other nested n h = omega arith
inside_pick false false false other nested n h = omega arith

named_pick : (is_open other : Bool) (n : ℕ) → NestedIn (n + one_if (is_open || other)) (if is_open then Some (Inside 1) else None)
named_pick true other n = omega arith
named_pick false other n = tt

operand_start_few : (kind : TokenKind) (n : ℕ) → NestedIn (n + one_if (opens_by kind)) (operand_start kind)
operand_start_few (NumberToken v) n = tt
operand_start_few NameToken n = omega arith
operand_start_few (Word place) n = omega arith
operand_start_few (Symbol place) n = operand_start_pick (place == 0) ((place == 17) || (place == 21)) (place == 2) n
operand_start_few MinSet n = omega arith
operand_start_few MaxSet n = omega arith

inside_few : (nested : ℕ) (kind : TokenKind) (n : ℕ) → nested ≤ n → NestedIn (n + one_if (opens_by kind)) (operand_step (Inside nested) kind)
inside_few nested (Symbol place) n h = inside_pick ((place == 1) && (nested == 1)) (place == 0) (place == 1) (place == 2) nested n h
inside_few nested _ n h = omega arith

stepped_few : (o : Operand) (kind : TokenKind) (n : ℕ) → nested_brackets o ≤ n → NestedIn (n + one_if (opens_by kind)) (operand_step o kind)
stepped_few Awaited kind n h = operand_start_few kind n
stepped_few Named (Symbol place) n h = named_pick (place == 0) (place == 2) n
stepped_few Named _ n h = tt
stepped_few Worded (Symbol place) n h = operand_start_pick (place == 0) false (place == 2) n
stepped_few Worded _ n h = omega arith
stepped_few (Inside nested) kind n h = inside_few nested kind n h
stepped_few Never kind n h = omega arith

one_few : (n : ℕ) (next : Option Operand) (os : List Operand) → NestedIn n next → All (λ o. nested_brackets o ≤ n) os
    → All (λ o. nested_brackets o ≤ n) (cons_option next os)
one_few n None os h rest = rest
one_few n (Some o) os h rest = All-cons (λ o. nested_brackets o ≤ n) o os h rest

all_few : (os : List Operand) (kind : TokenKind) (n : ℕ) → All (λ o. nested_brackets o ≤ n) os
    → All (λ o. nested_brackets o ≤ n + one_if (opens_by kind)) (filter_map (λ o. operand_step o kind) os)
all_few [] kind n h = All-nil (λ o. nested_brackets o ≤ n + one_if (opens_by kind))
all_few (o ∷ os) kind n h =
    one_few (n + one_if (opens_by kind)) (operand_step o kind) (filter_map (λ o. operand_step o kind) os) (stepped_few o kind n (h 0 o (omega arith)))
    (all_few os kind n (λ k d lt. h (suc k) d (omega (arith, lt))))

pub operands_step_few : (prefix : Bool) (os : List Operand) (kind : TokenKind) (n : ℕ) → All (λ o. nested_brackets o ≤ n) os
    → All (λ o. nested_brackets o ≤ n + one_if (opens_by kind)) (operands_step prefix os kind)
operands_step_few true os kind n h =
    let P : Operand → Type 0 = λ o. nested_brackets o ≤ n + one_if (opens_by kind) in
    All-append P _ _ (all_few os kind n h) (All-cons P Awaited [] (omega arith) (All-nil P))
operands_step_few false os kind n h =
    let P : Operand → Type 0 = λ o. nested_brackets o ≤ n + one_if (opens_by kind) in
    All-append P _ _ (all_few os kind n h) (All-nil P)

-- A count and a token make the count after it.
pub takes : (front : List Lexeme) (t : Lexeme) (old new : Nesting) → IsNesting front old
    → new.opened ≡ old.opened + one_if (opens_by t.kind) → new.closed ≡ old.closed + one_if (closes_by t.kind)
    → new.after_operand ≡ kind_ends_operand t.kind
    → new.operands.items ≡ operands_step (is_symbol_kind 21 t.kind || (is_symbol_kind 17 t.kind && not old.after_operand)) old.operands.items t.kind
    → IsNesting (front ++ t ∷ []) new
takes front t old new n opened closed after operands =
    let opens_is : is_opening t ≡ opens_by t.kind = cc (symbol_of 0 t, symbol_of 2 t) in
    let closes_is : is_closing t ≡ closes_by t.kind = cc (symbol_of 1 t, symbol_of 3 t) in
    let prefix_is : is_prefix n.last t ≡ (is_symbol_kind 21 t.kind || (is_symbol_kind 17 t.kind && not old.after_operand)) =
    cc (symbol_of 21 t, symbol_of 17 t, n.after) in
    record {
      opened = omega (arith, opened, n.opened, counted is_opening front t, ap one_if opens_is);
      closed = omega (arith, closed, n.closed, counted is_closing front t, ap one_if closes_is);
      last = Some t;
      after = after ∙ sym (ends_operand_is t.kind t.place t.bytes);
      waits = λ more.
          operands_step_waits front n.last old.operands.items t n.waits more
          ∙ ap (λ os. waiting_operands os more + pending_prefixes (Some t) more)
          (ap (λ p. operands_step p old.operands.items t.kind) prefix_is ∙ sym operands);
    }

-- UP TO A PLACE
pub next_counted : (text : List ℕ) (tokens : List Token) (place : ℕ) (d : Token) (kind : TokenKind) (old new : Nesting)
    → place < length tokens → kind ≡ (get_or tokens place d).kind → IsNesting (take place (lexemes text tokens)) old
    → ((front : List Lexeme) (t : Lexeme) → IsNesting front old → t.kind ≡ kind → IsNesting (front ++ t ∷ []) new)
    → IsNesting (take (place + 1) (lexemes text tokens)) new
next_counted text tokens place d kind old new lt is n step =
    let ts = lexemes text tokens in
    let long : place < length ts = omega (arith, lt, length-map tokens (lexeme text)) in
    let at : get_or ts place (lexeme text d) ≡ lexeme text (get_or tokens place d) = get_or-map (lexeme text) tokens place d (lexeme text d) lt in
    subst (λ front. IsNesting front new) (sym (take_more ts place (lexeme text d) long))
    (step (take place ts) (get_or ts place (lexeme text d)) n (ap (λ t. t.kind) at ∙ sym is))

pub counted_more : (ts : List Lexeme) (place : ℕ) (old new : Nesting) → IsCounted ts place old → IsNesting (take (place + 1) ts) new
    → nat_lt depth_limit (depth (take (place + 1) ts)) ≡ false → IsCounted ts (place + 1) new
counted_more ts place old new c n h =
    let at : place < length ts → depth (take (place + 1) ts) ≤ depth_limit = λ _. grind (arith, nat_tests) in
    record { counts = n; shallow = below_more (λ k. k < length ts → depth (take (k + 1) ts) ≤ depth_limit) place c.shallow at }

pub too_deep : (ts : List Lexeme) (place : ℕ) (old : Nesting) → IsCounted ts place old → place < length ts
    → nat_lt depth_limit (depth (take (place + 1) ts)) ≡ true → IsFirstDeep ts (Some place)
too_deep ts place old c lt h =
    let deep : depth_limit < depth (take (place + 1) ts) = grind (arith, nat_tests) in
    (c.shallow, lt, deep)
