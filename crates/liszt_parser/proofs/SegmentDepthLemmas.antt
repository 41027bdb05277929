-- Parts of a text's tokens, how deep they go at most, and what they leave after them.
use Rattle.std.proofs.Common.{◌≡◌, ℕ, suc, ◌+◌, ◌≤◌, max, ◌&&◌, not, cond, Bool, true, false, Option, Some, None, List, [], ◌∷◌, ◌++◌}
use Rattle.std.proofs.Common.{refl, sym, ap, subst, ◌∙◌, append_assoc, arith}
use Rattle.std.specs.List.{count_by}
use Rattle.std.proofs.lemmas.List.{append-nil}
use Rattle.liszt_lexer.specs.declared.token.TokenKind.{TokenKind}
use Rattle.liszt_parser.specs.Depth.{is_open_bracket, is_close_bracket, is_opening, is_closing, closes_bracket, holds_operand, is_operand_end, is_prefix, pending_prefixes, depth}
use Rattle.liszt_parser.specs.Grammar.{Lexeme}
use Rattle.liszt_parser.proofs.PrefixDepthLemmas.{of_kind, IsPlain, IsQuiet, IsOperator, counted, not_counted, one_counted, plain_skips, opening_step, closing_step, closing_last, passes, quiet_is_no_prefix, plain_after_operand, unless, unless_none, unless_less, StaysInside, begins_open, Front, depth_of, ShallowIn, chain_tree, parted, after, after_operator}
use Rattle.liszt_base.specs.Limits.{depth_limit}

-- WHERE A PART MAY STAND: after which token, how many prefix operators wait for it, and whether no bracket may come
abbrev pub Entry : Type 1
Entry = Option Lexeme → ℕ → Bool → Type 0

abbrev pub Anywhere : Entry
Anywhere before coming stop = coming ≡ 0

abbrev pub AsPart : Entry
AsPart before coming stop = (stop ≡ false) × (coming ≡ 0)

abbrev pub AsLink : Entry
AsLink before coming stop = (coming ≡ 0) × (is_operand_end before ≡ true)

abbrev pub AsLoose : Entry
AsLoose before coming stop = (stop ≡ false) × (is_operand_end before ≡ false) × (coming ≡ 0)

abbrev pub AsOperand : Entry
AsOperand before coming stop = (stop ≡ false) × (is_operand_end before ≡ false)

abbrev pub AsAtom : Entry
AsAtom before coming stop = stop ≡ false

-- A PART of the tokens, that stands there, with what is left after it.
pub record Passage (enters : Entry) (ts left : List Lexeme) : Type 0 where
  pub tokens : List Lexeme
  pub last : Option Lexeme → Option Lexeme
  pub is : ts ≡ tokens ++ left
  pub even : count_by is_opening tokens ≡ count_by is_closing tokens
  pub skips : (n : ℕ) (more : List Lexeme) → closes_bracket (suc n) (tokens ++ more) ≡ closes_bracket (suc n) more
  pub begins : (before : Option Lexeme) (p : ℕ) (stop : Bool) → enters before p stop → stop ≡ true
      → (more : List Lexeme) → begins_open more ≡ false → begins_open (tokens ++ more) ≡ false
  pub settles : (before : Option Lexeme) (p : ℕ) (stop : Bool) → enters before p stop
      → (more : List Lexeme) → begins_open more ≡ false → unless (holds_operand (tokens ++ more)) p ≡ 0
  pub ends : (before : Option Lexeme) (p : ℕ) (stop : Bool) → enters before p stop
      → (more : List Lexeme) → begins_open more ≡ false → pending_prefixes before (tokens ++ more) ≡ pending_prefixes (last before) more

-- and how deep it goes at most, over the depth where it stands
pub record Segment (enters : Entry) (deep : ℕ) (ts left : List Lexeme) : Type 0 where
  pub part : Passage enters ts left
  pub lower : (front : List Lexeme) (before : Option Lexeme) (k q p : ℕ) (stop : Bool) → Front front before k q p stop → enters before p stop
      → ShallowIn front part.tokens → k + q + p + deep ≤ depth_limit
  pub upper : (front : List Lexeme) (before : Option Lexeme) (k q p : ℕ) (stop : Bool) → Front front before k q p stop → enters before p stop
      → k + q + p + deep ≤ depth_limit → ShallowIn front part.tokens

-- the front after a part
pub leaves : {enters : Entry} {ts left front : List Lexeme} {before : Option Lexeme} {k q p : ℕ} {stop : Bool} (part : Passage enters ts left)
    → Front front before k q p stop → enters before p stop → Front (front ++ part.tokens) (part.last before) k q 0 true
leaves {front} {before} {k} {q} {p} {stop} part h here =
    record {
      opened =
          omega (arith, h.opened, counted is_opening front part.tokens, counted is_closing front part.tokens, part.even);
      pends = λ ts inside free. step ts inside (free refl);
    }
  where
    step : (ts : List Lexeme) → StaysInside ts → begins_open ts ≡ false
        → pending_prefixes None (front ++ part.tokens ++ ts) ≡ q + unless (holds_operand ts) 0 + pending_prefixes (part.last before) ts
    step ts inside free =
        let whole : pending_prefixes None (front ++ part.tokens ++ ts) ≡ pending_prefixes None (front ++ (part.tokens ++ ts)) =
        ap (pending_prefixes None) (append_assoc front part.tokens ts) in
        let there = h.pends (part.tokens ++ ts) (λ n. part.skips n ts ∙ inside n) (λ e. part.begins before p stop here e ts free) in
        let settled = part.settles before p stop here ts free in
        let none = unless_none (holds_operand ts) 0 refl in
        omega (arith, whole, there, settled, none, part.ends before p stop here ts free)

-- the same part where less may stand
pub weaken : {a b : Entry} {m : ℕ} {ts left : List Lexeme}
    → ((before : Option Lexeme) (p : ℕ) (stop : Bool) → b before p stop → a before p stop) → Segment a m ts left → Segment b m ts left
weaken h s =
    record {
      part = record {
        tokens = s.part.tokens;
        last = s.part.last;
        is = s.part.is;
        even = s.part.even;
        skips = s.part.skips;
        begins = λ before p stop here. s.part.begins before p stop (h before p stop here);
        settles = λ before p stop here. s.part.settles before p stop (h before p stop here);
        ends = λ before p stop here. s.part.ends before p stop (h before p stop here);
      };
      lower = λ front before k q p stop f here. s.lower front before k q p stop f (h before p stop here);
      upper = λ front before k q p stop f here. s.upper front before k q p stop f (h before p stop here);
    }

-- NOTHING
pub nothing : {enters : Entry} {left : List Lexeme} → ((before : Option Lexeme) (p : ℕ) (stop : Bool) → enters before p stop → p ≡ 0)
    → Segment enters 0 left left
nothing none =
    record {
      part = record {
        tokens = [];
        last = λ before. before;
        is = refl;
        even = refl;
        skips = λ n more. refl;
        begins = λ before p stop here e more free. free;
        settles = λ before p stop here more free. unless_none (holds_operand more) p (none before p stop here);
        ends = λ before p stop here more free. refl;
      };
      lower = λ front before k q p stop f here h. omega (arith, depth_of f, h);
      upper = λ front before k q p stop f here h. omega (arith, depth_of f, h);
    }

-- ONE PART AND ANOTHER
pub then : {a b : Entry} {m n : ℕ} {ts mid left : List Lexeme} → ((before : Option Lexeme) (p : ℕ) (stop : Bool) → a before p stop → p ≡ 0)
    → (first : Segment a m ts mid)
    → ((before : Option Lexeme) (p : ℕ) (stop : Bool) → a before p stop → b (first.part.last before) 0 true)
    → Segment b n mid left → Segment a (max m n) ts left
then {a} {b} {m} {n} {ts} {mid} {left} none first joins second =
    record {
      part = record {
        tokens = first.part.tokens ++ second.part.tokens;
        last = λ before. second.part.last (first.part.last before);
        is = first.part.is ∙ ap (λ l. first.part.tokens ++ l) second.part.is ∙ sym (append_assoc first.part.tokens second.part.tokens left);
        even =
            omega (
              arith,
              counted is_opening first.part.tokens second.part.tokens,
              counted is_closing first.part.tokens second.part.tokens,
              first.part.even,
              second.part.even,
            );
        skips = λ i more.
            ap (closes_bracket (suc i)) (append_assoc first.part.tokens second.part.tokens more)
            ∙ first.part.skips i (second.part.tokens ++ more) ∙ second.part.skips i more;
        begins = λ before p stop here e more free.
            ap begins_open (append_assoc first.part.tokens second.part.tokens more)
            ∙ first.part.begins before p stop here e (second.part.tokens ++ more) (continues before p stop here more free);
        settles = λ before p stop here more free.
            ap (λ l. unless (holds_operand l) p) (append_assoc first.part.tokens second.part.tokens more)
            ∙ first.part.settles before p stop here (second.part.tokens ++ more) (continues before p stop here more free);
        ends = λ before p stop here more free.
            ap (pending_prefixes before) (append_assoc first.part.tokens second.part.tokens more)
            ∙ first.part.ends before p stop here (second.part.tokens ++ more) (continues before p stop here more free)
            ∙ second.part.ends (first.part.last before) 0 true (joins before p stop here) more free;
      };
      lower = λ front before k q p stop f here h.
          let parts = parted front first.part.tokens second.part.tokens h in
          omega (
            arith,
            none before p stop here,
            first.lower front before k q p stop f here parts.0,
            second.lower (front ++ first.part.tokens) (first.part.last before) k q 0 true (leaves first.part f here)
                (joins before p stop here) parts.1,
          );
      upper = λ front before k q p stop f here h.
          chain_tree front first.part.tokens second.part.tokens
          (first.upper front before k q p stop f here (omega arith))
          (second.upper (front ++ first.part.tokens) (first.part.last before) k q 0 true (leaves first.part f here)
          (joins before p stop here) (omega arith));
    }
  where
    continues : (before : Option Lexeme) (p : ℕ) (stop : Bool) → a before p stop → (more : List Lexeme) → begins_open more ≡ false
        → begins_open (second.part.tokens ++ more) ≡ false
    continues before p stop here more free =
        second.part.begins (first.part.last before) 0 true (joins before p stop here) refl more free

-- A TOKEN before a part
pub token : {a b : Entry} {m : ℕ} {ts left : List Lexeme} (t : Lexeme) → IsPlain t.kind
    → ((before : Option Lexeme) (p : ℕ) (stop : Bool) → a before p stop → (p ≡ 0) × (is_prefix before t ≡ false)) → b (Some t) 0 false
    → Segment b m ts left → Segment a m (t ∷ ts) left
token {a} {m} {ts} {left} t plain passed there s =
    record {
      part = record {
        tokens = t ∷ s.part.tokens;
        last = λ before. s.part.last (Some t);
        is = ap (λ (l : List Lexeme). t ∷ l) s.part.is;
        even = not_counted is_opening t s.part.tokens plain.no_opens ∙ s.part.even ∙ sym (not_counted is_closing t s.part.tokens plain.no_closes);
        skips = λ n more. plain_skips t (suc n) (s.part.tokens ++ more) plain.no_open plain.no_close ∙ s.part.skips n more;
        begins = λ before p stop here e more free. plain.no_open;
        settles = λ before p stop here more free. unless_none (holds_operand (t ∷ (s.part.tokens ++ more))) p (passed before p stop here).0;
        ends = λ before p stop here more free.
            passes before t (s.part.tokens ++ more) (passed before p stop here).1 ∙ s.part.ends (Some t) 0 false there more free;
      };
      lower = λ front before k q p stop f here h.
          let e = (passed before p stop here).0 in
          let f' = after t (subst (λ n. Front front before k q n stop) e f) plain (passed before p stop here).1 in
          omega (arith, e, s.lower (front ++ t ∷ []) (Some t) k q 0 false f' there h.1);
      upper = λ front before k q p stop f here h.
          let e = (passed before p stop here).0 in
          let f' = after t (subst (λ n. Front front before k q n stop) e f) plain (passed before p stop here).1 in
          (omega (arith, depth_of f, h), s.upper (front ++ t ∷ []) (Some t) k q 0 false f' there (omega (arith, e, h)));
    }

-- A PREFIX OPERATOR before its operand
told : (b : Bool) → unless b 1 ≡ 0 → b ≡ true
told true e = refl
told false e = absurd (omega arith)

pub operator : {m : ℕ} {ts left : List Lexeme} (t : Lexeme) → IsOperator t.kind → Segment AsOperand m ts left
    → Segment AsOperand (suc m) (t ∷ ts) left
operator {m} {ts} {left} t is s =
    record {
      part = record {
        tokens = t ∷ s.part.tokens;
        last = λ before. s.part.last (Some t);
        is = ap (λ (l : List Lexeme). t ∷ l) s.part.is;
        even = not_counted is_opening t s.part.tokens is.no_opens ∙ s.part.even ∙ sym (not_counted is_closing t s.part.tokens is.no_closes);
        skips = λ n more. plain_skips t (suc n) (s.part.tokens ++ more) is.no_open is.no_close ∙ s.part.skips n more;
        begins = λ before p stop here e more free. is.no_open;
        settles = λ before p stop here more free.
            ap (λ b. unless b p) (is.holds (s.part.tokens ++ more)) ∙ s.part.settles (Some t) p false (refl, is.no_end) more free;
        ends = λ before p stop here more free. ended before more free;
      };
      lower = λ front before k q p stop f here h.
          let f' = after_operator t (subst (λ b. Front front before k q p b) here.0 f) is here.1 in
          omega (arith, s.lower (front ++ t ∷ []) (Some t) k q (suc p) false f' (refl, is.no_end) h.1);
      upper = λ front before k q p stop f here h.
          let f' = after_operator t (subst (λ b. Front front before k q p b) here.0 f) is here.1 in
          (omega (arith, depth_of f, h), s.upper (front ++ t ∷ []) (Some t) k q (suc p) false f' (refl, is.no_end) (omega (arith, h)));
    }
  where
    none : (a b : Bool) → b ≡ true → (n : ℕ) → cond (a && not b) 1 0 + n ≡ n
    none true true e n = omega arith
    none false true e n = omega arith
    none a false e n = cc

    ended : (before : Option Lexeme) (more : List Lexeme) → begins_open more ≡ false
        → pending_prefixes before (t ∷ (s.part.tokens ++ more)) ≡ pending_prefixes (s.part.last (Some t)) more
    ended before more free =
        let held = told (holds_operand (s.part.tokens ++ more)) (s.part.settles (Some t) 1 false (refl, is.no_end) more free) in
        none (is_prefix before t) (holds_operand (s.part.tokens ++ more)) held (pending_prefixes (Some t) (s.part.tokens ++ more))
        ∙ s.part.ends (Some t) 1 false (refl, is.no_end) more free

-- A NUMBER AND A NAME
pub record IsAtom (kind : TokenKind) : Type 0 where
  pub quiet : IsQuiet kind
  pub is_end : is_operand_end (Some (of_kind kind)) ≡ true
  pub holds : (ts : List Lexeme) → begins_open ts ≡ false → holds_operand (of_kind kind ∷ ts) ≡ true

atom_part : {left : List Lexeme} (t : Lexeme) → IsAtom t.kind → Passage AsAtom (t ∷ left) left
atom_part t is =
    record {
      tokens = t ∷ [];
      last = λ before. Some t;
      is = refl;
      even = not_counted is_opening t [] is.quiet.plain.no_opens ∙ sym (not_counted is_closing t [] is.quiet.plain.no_closes);
      skips = λ n more. plain_skips t (suc n) more is.quiet.plain.no_open is.quiet.plain.no_close;
      begins = λ before p stop here e more free. is.quiet.plain.no_open;
      settles = λ before p stop here more free. ap (λ b. unless b p) (is.holds more free);
      ends = λ before p stop here more free. passes before t more (quiet_is_no_prefix before t is.quiet);
    }

pub atom : {left : List Lexeme} (t : Lexeme) → IsAtom t.kind → Segment AsAtom 0 (t ∷ left) left
unfolding atom_part
atom {left} t is =
    let part : Passage AsAtom (t ∷ left) left = atom_part t is in
    record {
      part = part;
      lower = λ front before k q p stop f here h. omega (arith, depth_of f, h.0);
      upper = λ front before k q p stop f here h. (omega (arith, depth_of f, h), omega (arith, depth_of (leaves part f here), h));
    }

-- BRACKETS round a part, with nothing or a name before them
pub record IsOpening (kind : TokenKind) : Type 0 where
  pub is_open : is_open_bracket (of_kind kind) ≡ true
  pub no_close : is_close_bracket (of_kind kind) ≡ false
  pub is_opens : is_opening (of_kind kind) ≡ true
  pub no_closes : is_closing (of_kind kind) ≡ false
  pub no_prefix : (before : Option Lexeme) → is_prefix before (of_kind kind) ≡ false
  pub no_end : is_operand_end (Some (of_kind kind)) ≡ false
  pub holds : (ts : List Lexeme) → holds_operand (of_kind kind ∷ ts) ≡ closes_bracket 1 ts

pub record IsClosing (kind : TokenKind) : Type 0 where
  pub no_open : is_open_bracket (of_kind kind) ≡ false
  pub is_close : is_close_bracket (of_kind kind) ≡ true
  pub no_opens : is_opening (of_kind kind) ≡ false
  pub is_closes : is_closing (of_kind kind) ≡ true
  pub no_prefix : (before : Option Lexeme) → is_prefix before (of_kind kind) ≡ false
  pub is_end : is_operand_end (Some (of_kind kind)) ≡ true

-- a name or a word that a bracket follows
pub record IsCaller (kind : TokenKind) : Type 0 where
  pub quiet : IsQuiet kind
  pub calls : (o : Lexeme) (ts : List Lexeme) → is_open_bracket o ≡ true → holds_operand (of_kind kind ∷ o ∷ ts) ≡ closes_bracket 1 ts

-- what stands before the bracket
pub record IsHead (head : List Lexeme) : Type 0 where
  no_opens : count_by is_opening head ≡ 0
  no_closes : count_by is_closing head ≡ 0
  skips : (n : ℕ) (ts : List Lexeme) → closes_bracket n (head ++ ts) ≡ closes_bracket n ts
  holds : (o : Lexeme) (ts : List Lexeme) → IsOpening o.kind → holds_operand (head ++ o ∷ ts) ≡ closes_bracket 1 ts
  ends : (before : Option Lexeme) (o : Lexeme) (ts : List Lexeme) → IsOpening o.kind → pending_prefixes before (head ++ o ∷ ts) ≡ pending_prefixes (Some o) ts
  upper : (front : List Lexeme) (before : Option Lexeme) (k q p : ℕ) → Front front before k q p false → k + q + p ≤ depth_limit → ShallowIn front head

pub no_head : IsHead []
no_head =
    record {
      no_opens = refl;
      no_closes = refl;
      skips = λ n ts. refl;
      holds = λ o ts is. is.holds ts;
      ends = λ before o ts is. passes before o ts (is.no_prefix before);
      upper = λ front before k q p f h. omega (arith, depth_of f, h);
    }

-- the depth at one token more that waits for no operand
at_caller : {front : List Lexeme} {before : Option Lexeme} {k q p : ℕ} (t : Lexeme) → Front front before k q p false → IsQuiet t.kind
    → depth (front ++ t ∷ []) ≤ k + q + p
at_caller {front} {before} {k} {q} {p} t f is =
    let plain = is.plain in
    let here = f.pends (t ∷ []) (λ n. plain_skips t (suc n) [] plain.no_open plain.no_close) (λ e. plain.no_open) in
    let none = passes before t [] (quiet_is_no_prefix before t is) in
    omega (
      arith,
      here,
      none,
      unless_less (holds_operand (t ∷ [])) p,
      f.opened,
      counted is_opening front (t ∷ []),
      counted is_closing front (t ∷ []),
      not_counted is_opening t [] plain.no_opens,
      not_counted is_closing t [] plain.no_closes,
    )

pub one_head : (t : Lexeme) → IsCaller t.kind → IsHead (t ∷ [])
one_head t is =
    record {
      no_opens = not_counted is_opening t [] is.quiet.plain.no_opens;
      no_closes = not_counted is_closing t [] is.quiet.plain.no_closes;
      skips = λ n ts. plain_skips t n ts is.quiet.plain.no_open is.quiet.plain.no_close;
      holds = λ o ts opening. is.calls o ts opening.is_open;
      ends = λ before o ts opening.
          passes before t (o ∷ ts) (quiet_is_no_prefix before t is.quiet) ∙ passes (Some t) o ts (opening.no_prefix (Some t));
      upper = λ front before k q p f h. (omega (arith, depth_of f, h), omega (arith, at_caller t f is.quiet, h));
    }

-- the front in the bracket
no_stop : {A : Type 0} → false ≡ true → A
no_stop e = absurd cc

in_bracket : {front head : List Lexeme} {before : Option Lexeme} {k q p : ℕ} (o : Lexeme) → IsHead head → IsOpening o.kind
    → Front front before k q p false → Front (front ++ head ++ o ∷ []) (Some o) (suc k) (q + p) 0 false
in_bracket {front} {head} {before} {k} {q} {p} o h is f =
    record {
      opened =
          omega (
            arith,
            f.opened,
            h.no_opens,
            h.no_closes,
            counted is_opening (front ++ head) (o ∷ []),
            counted is_closing (front ++ head) (o ∷ []),
            counted is_opening front head,
            counted is_closing front head,
            one_counted is_opening o [] is.is_opens,
            not_counted is_closing o [] is.no_closes,
          );
      pends = λ ts inside free. step ts inside;
    }
  where
    step : (ts : List Lexeme) → StaysInside ts
        → pending_prefixes None (front ++ head ++ o ∷ [] ++ ts) ≡ q + p + unless (holds_operand ts) 0 + pending_prefixes (Some o) ts
    step ts inside =
        let whole : pending_prefixes None (front ++ head ++ o ∷ [] ++ ts) ≡ pending_prefixes None (front ++ (head ++ o ∷ ts)) =
        ap (pending_prefixes None) (append_assoc (front ++ head) (o ∷ []) ts ∙ append_assoc front head (o ∷ ts)) in
        let there = f.pends (head ++ o ∷ ts) (λ n. h.skips (suc n) (o ∷ ts) ∙ opening_step o (suc n) ts is.is_open is.no_close ∙ inside (suc n))
        (λ e. no_stop e) in
        let waits : unless (holds_operand (head ++ o ∷ ts)) p ≡ p = ap (λ b. unless b p) (h.holds o ts is ∙ inside 0) in
        let none = unless_none (holds_operand ts) 0 refl in
        omega (arith, whole, there, waits, none, h.ends before o ts is)

-- a front's end is as deep as the front may be
shallow_after : (front ts : List Lexeme) → ShallowIn front ts → depth (front ++ ts) ≤ depth_limit
shallow_after front [] h = subst (λ l. depth l ≤ depth_limit) (sym (append-nil front)) h
shallow_after front (t ∷ ts) h =
    subst (λ l. depth l ≤ depth_limit) (append_assoc front (t ∷ []) ts) (shallow_after (front ++ t ∷ []) ts h.1)

-- the part
bracketed : {a : Entry} {m : ℕ} {ts left : List Lexeme} (head : List Lexeme) (o c : Lexeme) → IsHead head → IsOpening o.kind → IsClosing c.kind
    → a (Some o) 0 false → Segment a m ts (c ∷ left) → Passage AsAtom (head ++ o ∷ ts) left
bracketed {a} {m} {ts} {left} head o c h is closing there s =
    record {
      tokens = head ++ o ∷ (s.part.tokens ++ c ∷ []);
      last = λ before. Some c;
      is =
          ap (λ (l : List Lexeme). head ++ o ∷ l) (s.part.is ∙ sym (append_assoc s.part.tokens (c ∷ []) left))
          ∙ sym (append_assoc head (o ∷ (s.part.tokens ++ c ∷ [])) left);
      even =
          omega (
            arith,
            h.no_opens,
            h.no_closes,
            s.part.even,
            counted is_opening head (o ∷ (s.part.tokens ++ c ∷ [])),
            counted is_closing head (o ∷ (s.part.tokens ++ c ∷ [])),
            one_counted is_opening o (s.part.tokens ++ c ∷ []) is.is_opens,
            not_counted is_closing o (s.part.tokens ++ c ∷ []) is.no_closes,
            counted is_opening s.part.tokens (c ∷ []),
            counted is_closing s.part.tokens (c ∷ []),
            not_counted is_opening c [] closing.no_opens,
            one_counted is_closing c [] closing.is_closes,
          );
      skips = λ n more.
          ap (closes_bracket (suc n)) (inside more) ∙ h.skips (suc n) (o ∷ (s.part.tokens ++ c ∷ more))
          ∙ opening_step o (suc n) (s.part.tokens ++ c ∷ more) is.is_open is.no_close ∙ s.part.skips (suc n) (c ∷ more)
          ∙ closing_step c n more closing.no_open closing.is_close;
      begins = λ before p stop here e more free. no_stop (sym here ∙ e);
      settles = λ before p stop here more free.
          ap (λ l. unless (holds_operand l) p) (inside more)
          ∙ ap (λ b. unless b p) (h.holds o (s.part.tokens ++ c ∷ more) is ∙ s.part.skips 0 (c ∷ more) ∙ closing_last c more closing.is_close);
      ends = λ before p stop here more free.
          ap (pending_prefixes before) (inside more) ∙ h.ends before o (s.part.tokens ++ c ∷ more) is
          ∙ s.part.ends (Some o) 0 false there (c ∷ more) closing.no_open
          ∙ passes (s.part.last (Some o)) c more (closing.no_prefix (s.part.last (Some o)));
    }
  where
    inside : (more : List Lexeme) → head ++ o ∷ (s.part.tokens ++ c ∷ []) ++ more ≡ head ++ o ∷ (s.part.tokens ++ c ∷ more)
    inside more =
        append_assoc head (o ∷ (s.part.tokens ++ c ∷ [])) more
        ∙ ap (λ (l : List Lexeme). head ++ o ∷ l) (append_assoc s.part.tokens (c ∷ []) more)

pub brackets : {a : Entry} {m : ℕ} {ts left : List Lexeme} (head : List Lexeme) (o c : Lexeme) → IsHead head → IsOpening o.kind → IsClosing c.kind
    → a (Some o) 0 false → Segment a m ts (c ∷ left) → Segment AsAtom (suc m) (head ++ o ∷ ts) left
unfolding bracketed
brackets {a} {m} {ts} {left} head o c h is closing there s =
    let part : Passage AsAtom (head ++ o ∷ ts) left = bracketed head o c h is closing there s in
    record {
      part = part;
      lower = λ front before k q p stop f here deep.
          let f' = in_bracket o h is (subst (λ b. Front front before k q p b) here f) in
          let parts = parted front head (o ∷ (s.part.tokens ++ c ∷ [])) deep in
          let inner = parted (front ++ head ++ o ∷ []) s.part.tokens (c ∷ []) parts.1.1 in
          omega (arith, s.lower (front ++ head ++ o ∷ []) (Some o) (suc k) (q + p) 0 false f' there inner.0);
      upper = λ front before k q p stop f here deep.
          let f₀ = subst (λ b. Front front before k q p b) here f in
          let f' = in_bracket o h is f₀ in
          let inner = s.upper (front ++ head ++ o ∷ []) (Some o) (suc k) (q + p) 0 false f' there (omega (arith, deep)) in
          let last : depth (front ++ head ++ o ∷ [] ++ s.part.tokens ++ c ∷ []) ≤ depth_limit =
          subst (λ l. depth l ≤ depth_limit) (sym (whole front)) (omega (arith, depth_of (leaves part f here), deep)) in
          let closed : ShallowIn (front ++ head ++ o ∷ [] ++ s.part.tokens) (c ∷ []) =
          (omega (arith, depth_of (leaves s.part f' there), deep), last) in
          let before_it = h.upper front before k q p f₀ (omega (arith, deep)) in
          chain_tree front head (o ∷ (s.part.tokens ++ c ∷ [])) before_it (
            shallow_after front head before_it,
            chain_tree (front ++ head ++ o ∷ []) s.part.tokens (c ∷ []) inner closed,
          );
    }
  where
    whole : (front : List Lexeme) → front ++ head ++ o ∷ [] ++ s.part.tokens ++ c ∷ [] ≡ front ++ (head ++ o ∷ (s.part.tokens ++ c ∷ []))
    whole front =
        append_assoc (front ++ head ++ o ∷ []) s.part.tokens (c ∷ [])
        ∙ append_assoc (front ++ head) (o ∷ []) (s.part.tokens ++ c ∷ [])
        ∙ append_assoc front head (o ∷ (s.part.tokens ++ c ∷ []))

-- BRACES round a part
pub record IsOpeningBrace (kind : TokenKind) : Type 0 where
  pub no_open : is_open_bracket (of_kind kind) ≡ false
  pub no_close : is_close_bracket (of_kind kind) ≡ false
  pub is_opens : is_opening (of_kind kind) ≡ true
  pub no_closes : is_closing (of_kind kind) ≡ false
  pub no_prefix : (before : Option Lexeme) → is_prefix before (of_kind kind) ≡ false

pub record IsClosingBrace (kind : TokenKind) : Type 0 where
  pub no_open : is_open_bracket (of_kind kind) ≡ false
  pub no_close : is_close_bracket (of_kind kind) ≡ false
  pub no_opens : is_opening (of_kind kind) ≡ false
  pub is_closes : is_closing (of_kind kind) ≡ true
  pub no_prefix : (before : Option Lexeme) → is_prefix before (of_kind kind) ≡ false

in_brace : {front : List Lexeme} {before : Option Lexeme} {k q p : ℕ} {stop : Bool} (o : Lexeme) → IsOpeningBrace o.kind → p ≡ 0
    → Front front before k q p stop → Front (front ++ o ∷ []) (Some o) (suc k) q 0 false
in_brace {front} {before} {k} {q} {p} {stop} o is none f =
    record {
      opened =
          omega (
            arith,
            f.opened,
            counted is_opening front (o ∷ []),
            counted is_closing front (o ∷ []),
            one_counted is_opening o [] is.is_opens,
            not_counted is_closing o [] is.no_closes,
          );
      pends = λ ts inside free. step ts inside;
    }
  where
    step : (ts : List Lexeme) → StaysInside ts
        → pending_prefixes None (front ++ o ∷ [] ++ ts) ≡ q + unless (holds_operand ts) 0 + pending_prefixes (Some o) ts
    step ts inside =
        let whole : pending_prefixes None (front ++ o ∷ [] ++ ts) ≡ pending_prefixes None (front ++ (o ∷ ts)) = ap (pending_prefixes None) (append_assoc front (o ∷ []) ts) in
        let here = f.pends (o ∷ ts) (λ n. plain_skips o (suc n) ts is.no_open is.no_close ∙ inside n) (λ e. is.no_open) in
        let none' = unless_none (holds_operand (o ∷ ts)) p none in
        let none'' = unless_none (holds_operand ts) 0 refl in
        omega (arith, whole, here, none', none'', passes before o ts (is.no_prefix before))

braced : {m : ℕ} {ts left : List Lexeme} (o c : Lexeme) → IsOpeningBrace o.kind → IsClosingBrace c.kind
    → Segment Anywhere m ts (c ∷ left) → Passage Anywhere (o ∷ ts) left
braced {m} {ts} {left} o c is closing s =
    record {
      tokens = o ∷ (s.part.tokens ++ c ∷ []);
      last = λ before. Some c;
      is = ap (λ (l : List Lexeme). o ∷ l) (s.part.is ∙ sym (append_assoc s.part.tokens (c ∷ []) left));
      even =
          omega (
            arith,
            s.part.even,
            one_counted is_opening o (s.part.tokens ++ c ∷ []) is.is_opens,
            not_counted is_closing o (s.part.tokens ++ c ∷ []) is.no_closes,
            counted is_opening s.part.tokens (c ∷ []),
            counted is_closing s.part.tokens (c ∷ []),
            not_counted is_opening c [] closing.no_opens,
            one_counted is_closing c [] closing.is_closes,
          );
      skips = λ n more.
          plain_skips o (suc n) (s.part.tokens ++ c ∷ [] ++ more) is.no_open is.no_close
          ∙ ap (closes_bracket (suc n)) (append_assoc s.part.tokens (c ∷ []) more) ∙ s.part.skips n (c ∷ more)
          ∙ plain_skips c (suc n) more closing.no_open closing.no_close;
      begins = λ before p stop here e more free. is.no_open;
      settles = λ before p stop here more free. unless_none (holds_operand (o ∷ (s.part.tokens ++ c ∷ [] ++ more))) p here;
      ends = λ before p stop here more free.
          passes before o (s.part.tokens ++ c ∷ [] ++ more) (is.no_prefix before)
          ∙ ap (pending_prefixes (Some o)) (append_assoc s.part.tokens (c ∷ []) more) ∙ s.part.ends (Some o) 0 false refl (c ∷ more) closing.no_open
          ∙ passes (s.part.last (Some o)) c more (closing.no_prefix (s.part.last (Some o)));
    }

pub braces : {m : ℕ} {ts left : List Lexeme} (o c : Lexeme) → IsOpeningBrace o.kind → IsClosingBrace c.kind
    → Segment Anywhere m ts (c ∷ left) → Segment Anywhere (suc m) (o ∷ ts) left
unfolding braced
braces {m} {ts} {left} o c is closing s =
    let part : Passage Anywhere (o ∷ ts) left = braced o c is closing s in
    record {
      part = part;
      lower = λ front before k q p stop f here deep.
          let inner = parted (front ++ o ∷ []) s.part.tokens (c ∷ []) deep.1 in
          omega (arith, here, s.lower (front ++ o ∷ []) (Some o) (suc k) q 0 false (in_brace o is here f) refl inner.0);
      upper = λ front before k q p stop f here deep.
          let f' = in_brace o is here f in
          let last : depth (front ++ o ∷ [] ++ s.part.tokens ++ c ∷ []) ≤ depth_limit =
          subst (λ l. depth l ≤ depth_limit) (sym (whole front)) (omega (arith, depth_of (leaves part f here), deep)) in (
            omega (arith, depth_of f, deep),
            chain_tree (front ++ o ∷ []) s.part.tokens (c ∷ [])
                (s.upper (front ++ o ∷ []) (Some o) (suc k) q 0 false f' refl (omega (arith, here, deep)))
                (omega (arith, depth_of (leaves s.part f' refl), here, deep), last),
          );
    }
  where
    whole : (front : List Lexeme) → front ++ o ∷ [] ++ s.part.tokens ++ c ∷ [] ≡ front ++ (o ∷ (s.part.tokens ++ c ∷ []))
    whole front = append_assoc (front ++ o ∷ []) s.part.tokens (c ∷ []) ∙ append_assoc front (o ∷ []) (s.part.tokens ++ c ∷ [])

-- OPERANDS end as operands do, and so do the links of a chain after one.
pub record Operand (enters : Entry) (deep : ℕ) (ts left : List Lexeme) : Type 0 where
  pub segment : Segment enters deep ts left
  pub ended : (before : Option Lexeme) → is_operand_end (segment.part.last before) ≡ true

pub record LinkList (deep : ℕ) (ts left : List Lexeme) : Type 0 where
  pub segment : Segment AsLink deep ts left
  pub ended : (before : Option Lexeme) → is_operand_end before ≡ true → is_operand_end (segment.part.last before) ≡ true

-- an operator between operands
pub record IsInfix (kind : TokenKind) : Type 0 where
  pub plain : IsPlain kind
  pub no_end : is_operand_end (Some (of_kind kind)) ≡ false

pub an_atom : {left : List Lexeme} (t : Lexeme) → IsAtom t.kind → Operand AsAtom 0 (t ∷ left) left
unfolding atom atom_part
an_atom t is = record { segment = atom t is; ended = λ before. is.is_end }

pub an_operator : {m : ℕ} {ts left : List Lexeme} (t : Lexeme) → IsOperator t.kind → Operand AsOperand m ts left
    → Operand AsOperand (suc m) (t ∷ ts) left
unfolding operator
an_operator t is s = record { segment = operator t is s.segment; ended = λ before. s.ended (Some t) }

pub in_brackets : {a : Entry} {m : ℕ} {ts left : List Lexeme} (head : List Lexeme) (o c : Lexeme) → IsHead head → IsOpening o.kind
    → IsClosing c.kind → a (Some o) 0 false → Segment a m ts (c ∷ left) → Operand AsAtom (suc m) (head ++ o ∷ ts) left
unfolding brackets bracketed
in_brackets head o c h is closing there s =
    record { segment = brackets head o c h is closing there s; ended = λ before. closing.is_end }

pub weaker : {a b : Entry} {m : ℕ} {ts left : List Lexeme}
    → ((before : Option Lexeme) (p : ℕ) (stop : Bool) → b before p stop → a before p stop) → Operand a m ts left → Operand b m ts left
unfolding weaken
weaker h s = record { segment = weaken h s.segment; ended = s.ended }

pub no_link : {left : List Lexeme} → LinkList 0 left left
unfolding nothing
no_link = record { segment = nothing (λ before p stop here. here.0); ended = λ before e. e }

pub a_link : {m n : ℕ} {ts mid left : List Lexeme} (t : Lexeme) → IsInfix t.kind → Operand AsLoose m ts mid → LinkList n mid left
    → LinkList (max m n) (t ∷ ts) left
unfolding then token
a_link t is s more =
    record {
      segment =
          token t is.plain (λ before p stop here. (here.0, plain_after_operand before t is.plain here.1)) (refl, is.no_end, refl)
          (then (λ before p stop here. here.2) s.segment (λ before p stop here. (refl, s.ended before)) more.segment);
      ended = λ before e. more.ended (s.segment.part.last (Some t)) (s.ended (Some t));
    }

pub a_chain : {m n : ℕ} {ts mid left : List Lexeme} → Operand AsLoose m ts mid → LinkList n mid left → Operand AsLoose (max m n) ts left
unfolding then
a_chain s more =
    record {
      segment = then (λ before p stop here. here.2) s.segment (λ before p stop here. (refl, s.ended before)) more.segment;
      ended = λ before. more.ended (s.segment.part.last before) (s.ended before);
    }

-- LINES: parts that stand anywhere where no operator waits
pub then_line : {m n : ℕ} {ts mid left : List Lexeme} → Segment Anywhere m ts mid → Segment Anywhere n mid left
    → Segment Anywhere (max m n) ts left
then_line first second = then (λ before p stop here. here) first (λ before p stop here. refl) second

pub then_part : {m n : ℕ} {ts mid left : List Lexeme} → Segment AsPart m ts mid → Segment Anywhere n mid left
    → Segment AsPart (max m n) ts left
then_part first second = then (λ before p stop here. here.1) first (λ before p stop here. refl) second

pub then_end : {m n : ℕ} {ts mid left : List Lexeme} → Operand AsLoose m ts mid → Segment Anywhere n mid left
    → Segment AsLoose (max m n) ts left
then_end first second = then (λ before p stop here. here.2) first.segment (λ before p stop here. refl) second

-- a token before a part, before an expression and before a line
pub before_part : {m : ℕ} {ts left : List Lexeme} (t : Lexeme) → IsQuiet t.kind → Segment AsPart m ts left → Segment Anywhere m (t ∷ ts) left
before_part t is s = token t is.plain (λ before p stop here. (here, quiet_is_no_prefix before t is)) (refl, refl) s

pub before_loose : {m : ℕ} {ts left : List Lexeme} (t : Lexeme) → IsQuiet t.kind → is_operand_end (Some t) ≡ false
    → Segment AsLoose m ts left → Segment Anywhere m (t ∷ ts) left
before_loose t is no_end s =
    token t is.plain (λ before p stop here. (here, quiet_is_no_prefix before t is)) (refl, no_end, refl) s

pub before_line : {m : ℕ} {ts left : List Lexeme} (t : Lexeme) → IsQuiet t.kind → Segment Anywhere m ts left → Segment Anywhere m (t ∷ ts) left
before_line t is s = token t is.plain (λ before p stop here. (here, quiet_is_no_prefix before t is)) refl s

pub as_part : {m : ℕ} {ts left : List Lexeme} → Operand AsAtom m ts left → Segment AsPart m ts left
as_part s = weaken (λ before p stop here. here.0) s.segment
