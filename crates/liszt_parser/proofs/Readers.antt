-- How readers behave that are made of others: what is read in parts is read, and what is stuck in a part is stuck.
use Rattle.std.proofs.Common.{◌≡◌, List, [], ◌∷◌, ◌++◌, refl, sym, ap, subst, ◌∙◌, append_assoc}
use Rattle.liszt_lexer.specs.declared.token.TokenKind.{TokenKind}
use Rattle.liszt_parser.specs.Grammar.{Lexeme}
use Rattle.liszt_parser.specs.Internal.Reading.{Reader, SameHead, IsRead, IsStuck, ◌then◌, mapped_reader, HeadIs}

-- HEADS
pub same_self : (ts : List Lexeme) → SameHead ts ts
same_self [] = tt
same_self (t ∷ ts) = refl

pub same_back : (ts us : List Lexeme) → SameHead ts us → SameHead us ts
same_back [] [] h = tt
same_back (t ∷ ts) (u ∷ us) h = sym h
same_back [] (u ∷ us) h = absurd h
same_back (t ∷ ts) [] h = absurd h

pub same_after : (front at other : List Lexeme) → SameHead at other → SameHead (front ++ at) (front ++ other)
same_after [] at other h = h
same_after (t ∷ front) at other h = refl

pub head_by : (is : TokenKind → Type 0) (ts other : List Lexeme) → SameHead ts other → HeadIs is ts → HeadIs is other
head_by is [] [] h k = k
head_by is (t ∷ ts) (u ∷ us) h k = subst (λ (z : Lexeme). is z.kind) h k
head_by is [] (u ∷ us) h k = absurd h
head_by is (t ∷ ts) [] h k = absurd h

-- pairs of equal parts
pub same_pair : {A B : Type 0} (x y : A × B) → x.0 ≡ y.0 → x.1 ≡ y.1 → x ≡ y
same_pair x y p q =
    let first : (x.0, x.1) ≡ (y.0, x.1) = ap (λ z. (z, x.1)) p in
    let second : (y.0, x.1) ≡ (y.0, y.1) = ap (λ z. (y.0, z)) q in
    first ∙ second

-- LAWS of a reader: one reading with what may be left, which the first token left decides, and some reading
pub record Lawful {A : Type 0} (r : Reader A) : Type 0 where
  pub one : (ts left left' : List Lexeme) (e e' : A) → r.reads ts e left → r.stops left → r.reads ts e' left' → r.stops left' → (e ≡ e') × (left ≡ left')
  pub by_head : (left other : List Lexeme) → SameHead left other → r.stops left → r.stops other
  pub fits_head : (left other : List Lexeme) → SameHead left other → r.fits left other
  pub tokens : List Lexeme
  pub some : A
  pub reads_some : (left : List Lexeme) → r.reads (tokens ++ left) some left

-- what one reader needs of another after it
pub record Behind {A B : Type 0} (r : Reader A) (s : Reader B) : Type 0 where
  pub stops : (mid left : List Lexeme) (x : B) → s.reads mid x left → s.stops left → r.stops mid
  pub fits : (mid other : List Lexeme) (x : B) → s.reads mid x mid → s.fits mid other → r.fits mid other

-- where nothing is read after it, what is may stand in the place of what is left
unfoldable pub Loose : {A B : Type 0} → Reader A → Reader B → Type 0
Loose {B = B} r s =
    (mid other left : List Lexeme) (x : B) → s.reads other x left → ((x : B) (left : List Lexeme) → s.reads mid x left → s.stops left → ⊥)
    → r.fits mid other

-- a reader after which anything may stand
pub record Free {A : Type 0} (r : Reader A) : Type 0 where
  pub stops : (left : List Lexeme) → r.stops left
  pub fits : (left other : List Lexeme) → r.fits left other

pub free_after : {A B : Type 0} {r : Reader A} {s : Reader B} → Free r → Behind r s
free_after f = record { stops = λ mid left x h k. f.stops mid; fits = λ mid other x h k. f.fits mid other }

pub free_loose : {A B : Type 0} (r : Reader A) (s : Reader B) → Free r → Loose r s
unfolding Loose
free_loose r s f mid other left x d h = f.fits mid other

-- ONE AFTER THE OTHER
-- in the place of what a reader left, something that begins as it did
fits_parts : {A B : Type 0} (r : Reader A) (s : Reader B) → Lawful r → Behind r s → (front left other : List Lexeme) (x : B)
    → ((us : List Lexeme) → s.fits left us → s.reads (front ++ us) x us) → s.fits left left → s.fits left other
    → r.fits (front ++ left) (front ++ other)
fits_parts r s law b [] left other x h same k = b.fits left other x (h left same) k
fits_parts r s law b (t ∷ front) left other x h same k = law.fits_head (t ∷ (front ++ left)) (t ∷ (front ++ other)) refl

pub then_read : {A B : Type 0} {r : Reader A} {s : Reader B} → Lawful r → Lawful s → Behind r s → (ts mid left : List Lexeme) (e : A) (x : B)
    → IsRead r ts e mid → IsRead s mid x left → IsRead (r then s) ts (e, x) left
then_read {A} {B} {r} {s} law law' b ts mid left e x one two =
    record {
      front = one.front ++ two.front;
      parts = one.parts ∙ ap (λ m. one.front ++ m) two.parts ∙ sym (append_assoc one.front two.front left);
      reads_on = λ other h. reads other h;
      stops = two.stops;
    }
  where
    fits : (other : List Lexeme) → s.fits left other → r.fits mid (two.front ++ other)
    fits other h =
        subst (λ m. r.fits m (two.front ++ other)) (sym two.parts)
        (fits_parts r s law b two.front left other x two.reads_on (law'.fits_head left left (same_self left)) h)

    reads : (other : List Lexeme) → s.fits left other
        → (us : List Lexeme) × r.reads ((one.front ++ two.front) ++ other) e us × s.reads us x other
    reads other h = (
      two.front ++ other,
      subst (λ m. r.reads m e (two.front ++ other)) (sym (append_assoc one.front two.front other)) (one.reads_on (two.front ++ other) (fits other h)),
      two.reads_on other h,
    )

pub then_first : {A B : Type 0} {r : Reader A} {s : Reader B} → Lawful s → Behind r s → (ts at : List Lexeme) → IsStuck r ts at
    → IsStuck (r then s) ts at
then_first {A} {B} {r} {s} law b ts at one =
    record {
      front = one.front;
      parts = one.parts;
      more = one.more ++ law.tokens;
      whole = (one.whole, law.some);
      continues = λ left. (
        law.tokens ++ left,
        subst (λ m. r.reads (one.front ++ m) one.whole (law.tokens ++ left)) (sym (append_assoc one.more law.tokens left)) (one.continues (law.tokens ++ left)),
        law.reads_some left,
      );
      ends_here = λ other left e h d stop. one.ends_here other d.0 e.0 h d.1 (b.stops d.0 left e.1 d.2 stop);
    }

-- what was read before the place, whatever begins at the place as before
read_before : {A : Type 0} (r : Reader A) → Lawful r → (mid front at other : List Lexeme) → mid ≡ front ++ at → SameHead at other
    → r.fits mid (front ++ other)
read_before r law mid front at other e h =
    subst (λ m. r.fits m (front ++ other)) (sym e) (law.fits_head (front ++ at) (front ++ other) (same_after front at other h))

pub then_second : {A B : Type 0} {r : Reader A} {s : Reader B} → Lawful r → Behind r s → Loose r s → (ts mid at : List Lexeme) (e : A)
    → IsRead r ts e mid → IsStuck s mid at → IsStuck (r then s) ts at
unfolding Loose
then_second {A} {B} {r} {s} law b loose ts mid at e one two =
    record {
      front = one.front ++ two.front;
      parts = one.parts ∙ ap (λ m. one.front ++ m) two.parts ∙ sym (append_assoc one.front two.front at);
      more = two.more;
      whole = (e, two.whole);
      continues = λ left. goes left;
      ends_here = λ other left x h d stop. ends other left x h d.0 d.1 d.2 stop;
    }
  where
    apart : (front : List Lexeme) → mid ≡ front ++ at → (other left : List Lexeme) → s.reads (front ++ other) two.whole left
        → ((x : B) (left : List Lexeme) → s.reads (front ++ at) x left → s.stops left → ⊥) → r.fits mid (front ++ other)
    apart [] e other left d h = subst (λ m. r.fits m other) (sym e) (loose at other left two.whole d h)
    apart (t ∷ front) e other left d h =
        subst (λ m. r.fits m (t ∷ (front ++ other))) (sym e) (law.fits_head (t ∷ (front ++ at)) (t ∷ (front ++ other)) refl)

    goes : (left : List Lexeme)
        → (us : List Lexeme) × r.reads ((one.front ++ two.front) ++ (two.more ++ left)) e us × s.reads us two.whole left
    goes left = (
      two.front ++ (two.more ++ left),
      subst (λ m. r.reads m e (two.front ++ (two.more ++ left))) (sym (append_assoc one.front two.front (two.more ++ left)))
          (one.reads_on (two.front ++ (two.more ++ left))
          (apart two.front two.parts (two.more ++ left) left (two.continues left)
          (λ x left d stop. two.ends_here at left x (same_self at) d stop))),
      two.continues left,
    )

    ends : (other left : List Lexeme) (x : A × B) → SameHead at other → (us : List Lexeme)
        → r.reads ((one.front ++ two.front) ++ other) x.0 us → s.reads us x.1 left → s.stops left → ⊥
    ends other left x h us d d' stop =
        let mine = one.reads_on (two.front ++ other) (read_before r law mid two.front at other two.parts h) in
        let theirs : r.reads (one.front ++ (two.front ++ other)) x.0 us = subst (λ m. r.reads m x.0 us) (append_assoc one.front two.front other) d in
        let stops : r.stops (two.front ++ other) =
        law.by_head (two.front ++ at) (two.front ++ other) (same_after two.front at other h) (subst r.stops two.parts one.stops) in
        let same = law.one (one.front ++ (two.front ++ other)) (two.front ++ other) us e x.0 mine stops theirs (b.stops us left x.1 d' stop) in
        two.ends_here other left x.1 h (subst (λ m. s.reads m x.1 left) (sym same.1) d') stop

pub then_lawful : {A B : Type 0} {r : Reader A} {s : Reader B} → Lawful r → Lawful s → Behind r s → Lawful (r then s)
then_lawful {A} {B} {r} {s} law law' b =
    record {
      one = λ ts left left' e e' d stop d' stop'. same ts left left' e e' d.0 d'.0 d.1 d.2 stop d'.1 d'.2 stop';
      by_head = law'.by_head;
      fits_head = law'.fits_head;
      tokens = law.tokens ++ law'.tokens;
      some = (law.some, law'.some);
      reads_some = λ left. (
        law'.tokens ++ left,
        subst (λ m. r.reads m law.some (law'.tokens ++ left)) (sym (append_assoc law.tokens law'.tokens left)) (law.reads_some (law'.tokens ++ left)),
        law'.reads_some left,
      );
    }
  where
    same : (ts left left' : List Lexeme) (e e' : A × B) (mid mid' : List Lexeme) → r.reads ts e.0 mid → s.reads mid e.1 left → s.stops left
        → r.reads ts e'.0 mid' → s.reads mid' e'.1 left' → s.stops left' → (e ≡ e') × (left ≡ left')
    same ts left left' e e' mid mid' d k stop d' k' stop' =
        let a = law.one ts mid mid' e.0 e'.0 d (b.stops mid left e.1 k stop) d' (b.stops mid' left' e'.1 k' stop') in
        let c = law'.one mid left left' e.1 e'.1 k stop (subst (λ m. s.reads m e'.1 left') (sym a.1) k') stop' in
        (same_pair e e' a.0 c.0, c.1)

-- READ AS SOMETHING ELSE
pub mapped_read : {A B : Type 0} {s : Reader B} (f : B → A) (ts left : List Lexeme) (x : B) (e : A) → e ≡ f x → IsRead s ts x left
    → IsRead (mapped_reader f s) ts e left
mapped_read f ts left x e is d =
    record { front = d.front; parts = d.parts; reads_on = λ other h. (x, d.reads_on other h, is); stops = d.stops }

pub mapped_stuck : {A B : Type 0} {s : Reader B} (f : B → A) (ts at : List Lexeme) → IsStuck s ts at → IsStuck (mapped_reader f s) ts at
mapped_stuck f ts at d =
    record {
      front = d.front;
      parts = d.parts;
      more = d.more;
      whole = f d.whole;
      continues = λ left. (d.whole, d.continues left, refl);
      ends_here = λ other left e h k stop. d.ends_here other left k.0 h k.1 stop;
    }

pub mapped_lawful : {A B : Type 0} {s : Reader B} (f : B → A) → Lawful s → Lawful (mapped_reader f s)
mapped_lawful {A} {B} {s} f law =
    record {
      one = λ ts left left' e e' d stop d' stop'.
          let a = law.one ts left left' d.0 d'.0 d.1 stop d'.1 stop' in (d.2 ∙ ap f a.0 ∙ sym d'.2, a.1);
      by_head = law.by_head;
      fits_head = law.fits_head;
      tokens = law.tokens;
      some = f law.some;
      reads_some = λ left. (law.some, law.reads_some left, refl);
    }

-- A PRODUCTION, where the first token decides for it
pub record Becomes {A B : Type 0} (r : Reader A) (s : Reader B) (f : B → A) (ts : List Lexeme) : Type 0 where
  pub into : (us left : List Lexeme) (x : B) → s.reads us x left → r.reads us (f x) left
  pub out : (other left : List Lexeme) (e : A) → SameHead ts other → r.reads other e left → r.stops left → (x : B) × s.reads other x left × s.stops left × (e ≡ f x)
  pub fits : (left other : List Lexeme) → r.fits left other → s.fits left other

pub becomes_read : {A B : Type 0} {r : Reader A} {s : Reader B} {f : B → A} (ts left : List Lexeme) (x : B) → Becomes r s f ts
    → IsRead s ts x left → r.stops left → IsRead r ts (f x) left
becomes_read ts left x b d stop =
    record { front = d.front; parts = d.parts; reads_on = λ other h. b.into (d.front ++ other) other x (d.reads_on other (b.fits left other h)); stops = stop }

-- what begins as the tokens do, for the tokens before the place are the same
begins_same : (ts front at other : List Lexeme) → ts ≡ front ++ at → SameHead at other → SameHead ts (front ++ other)
begins_same ts front at other e h = subst (λ m. SameHead m (front ++ other)) (sym e) (same_after front at other h)

pub becomes_stuck : {A B : Type 0} {r : Reader A} {s : Reader B} {f : B → A} (ts at : List Lexeme) → Becomes r s f ts → IsStuck s ts at
    → IsStuck r ts at
becomes_stuck {A} {B} {r} {s} {f} ts at b d =
    record {
      front = d.front;
      parts = d.parts;
      more = d.more;
      whole = f d.whole;
      continues = λ left. b.into (d.front ++ (d.more ++ left)) left d.whole (d.continues left);
      ends_here = λ other left e h k stop.
          let x = b.out (d.front ++ other) left e (begins_same ts d.front at other d.parts h) k stop in
          d.ends_here other left x.0 h x.1 x.2;
    }

-- what is read as the production, but with what cannot be left, is stuck there
pub becomes_stopped : {A B : Type 0} {r : Reader A} {s : Reader B} {f : B → A} (ts left : List Lexeme) (x : B) → Becomes r s f ts → Lawful r
    → Lawful s → IsRead s ts x left → ((other : List Lexeme) → s.fits left other) → (r.stops left → ⊥) → IsStuck r ts left
becomes_stopped {A} {B} {r} {s} {f} ts left x b law law' d fits not =
    record {
      front = d.front;
      parts = d.parts;
      more = [];
      whole = f x;
      continues = λ left. b.into (d.front ++ left) left x (d.reads_on left (fits left));
      ends_here = λ other left e h k stop. ends other left e h k stop;
    }
  where
    ends : (other left' : List Lexeme) (e : A) → SameHead left other → r.reads (d.front ++ other) e left' → r.stops left' → ⊥
    ends other left' e h k stop =
        let y = b.out (d.front ++ other) left' e (begins_same ts d.front left other d.parts h) k stop in
        let same = law'.one (d.front ++ other) other left' x y.0 (d.reads_on other (fits other)) (law'.by_head left other h d.stops) y.1 y.2 in
        not (law.by_head other left (same_back left other h) (subst r.stops (sym same.1) stop))

-- where nothing begins with the first token
pub stuck_at_once : {A : Type 0} (r : Reader A) (ts : List Lexeme) → Lawful r
    → ((other left : List Lexeme) (e : A) → SameHead ts other → r.reads other e left → r.stops left → ⊥) → IsStuck r ts ts
stuck_at_once r ts law h =
    record {
      front = [];
      parts = refl;
      more = law.tokens;
      whole = law.some;
      continues = law.reads_some;
      ends_here = h;
    }
