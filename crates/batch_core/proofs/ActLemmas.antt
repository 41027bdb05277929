-- Acts on different words commute.
use Rattle.std.proofs.Common.{◌≡◌, ◌≢◌, ℕ, ℤ, pos, false, List, [], ◌∷◌, length, set, None, Some, refl, sym, ap, ap₂, ◌∙◌, inl, inr, get_or-set_other, length-set}
use Rattle.std.proofs.lemmas.List.{set_comm}
use Rattle.std.specs.declared.option.Option.{Option}
use Rattle.liszt_base.specs.Reductions.{fold}
use Rattle.batch_core.specs.declared.acts.Act.{Act}
use Rattle.batch_core.specs.declared.acts.Act.TheVariants.{Read, Load, Put, Fold}
use Rattle.batch_core.specs.Machine.{value_at, word, words_after, register_after, words_when_finished, Member, is_read}

-- the number that an act stores
abbrev stored_number : ℤ → Act → Option ℤ
stored_number r (Read w) = None
stored_number r (Load w) = None
stored_number r (Put w v) = Some v
stored_number r (Fold w op v) = Some (fold op r v)

abbrev write : List ℤ → ℕ → Option ℤ → List ℤ
write ws w None = ws
write ws w (Some x) = set ws w x

after_is : (ws : List ℤ) (r : ℤ) (a : Act) → words_after ws r a ≡ write ws (word a) (stored_number r a)
after_is ws r (Read w) = refl
after_is ws r (Load w) = refl
after_is ws r (Put w v) = refl
after_is ws r (Fold w op v) = refl

not_read : (r : ℤ) (a : Act) (x : ℤ) → stored_number r a ≡ Some x → is_read a ≡ false
not_read r (Read w) x e = absurd cc
not_read r (Load w) x e = refl
not_read r (Put w v) x e = refl
not_read r (Fold w op v) x e = refl

-- two acts on different words, unless both only read
pub record AreFree (a b : Act) : Type 0 where
  pub first : is_read a ≡ false → word a ≢ word b
  pub second : is_read b ≡ false → word a ≢ word b

write_comm : (ws : List ℤ) (i j : ℕ) (o p : Option ℤ) → ((x : ℤ) → o ≡ Some x → i ≢ j) → write (write ws i o) j p ≡ write (write ws j p) i o
write_comm ws i j None p h = refl
write_comm ws i j (Some x) None h = refl
write_comm ws i j (Some x) (Some y) h = set_comm ws i j x y (h x refl)

words_comm : (ws : List ℤ) (q r : ℤ) (a b : Act) → AreFree a b → words_after (words_after ws q a) r b ≡ words_after (words_after ws r b) q a
words_comm ws q r a b f =
    after_is (words_after ws q a) r b
    ∙ ap (λ vs. write vs (word b) (stored_number r b)) (after_is ws q a)
    ∙ write_comm ws (word a) (word b) (stored_number q a) (stored_number r b) (λ x e. f.first (not_read q a x e))
    ∙ sym (after_is (words_after ws r b) q a ∙ ap (λ vs. write vs (word a) (stored_number q a)) (after_is ws r b))

value_write : (ws : List ℤ) (i w : ℕ) (o : Option ℤ) → ((x : ℤ) → o ≡ Some x → w ≢ i) → value_at (write ws i o) w ≡ value_at ws w
value_write ws i w None h = refl
value_write ws i w (Some x) h = get_or-set_other ws i w x (pos 0) (h x refl)

-- an act keeps the value of every other word
pub value_kept : (ws : List ℤ) (r : ℤ) (a : Act) (w : ℕ) → (is_read a ≡ false → w ≢ word a)
    → value_at (words_after ws r a) w ≡ value_at ws w
value_kept ws r a w h = ap (λ vs. value_at vs w) (after_is ws r a) ∙ value_write ws (word a) w (stored_number r a) (λ x e. h (not_read r a x e))

register_kept : (ws : List ℤ) (q r : ℤ) (a b : Act) → AreFree a b → register_after (words_after ws q a) r b ≡ register_after ws r b
register_kept ws q r a (Read w) f = refl
register_kept ws q r a (Load w) f = value_kept ws q a w (λ t e. f.first t (sym e))
register_kept ws q r a (Put w v) f = refl
register_kept ws q r a (Fold w op v) f = refl

-- an act and a list of acts that are free of it
pub list_comm : (ws : List ℤ) (q r : ℤ) (a : Act) (bs : List Act) → ((b : Act) → Member b bs → AreFree a b)
    → words_when_finished (words_after ws q a) r bs ≡ words_after (words_when_finished ws r bs) q a
list_comm ws q r a [] h = refl
list_comm ws q r a (b ∷ bs) h =
    ap₂ (λ vs p. words_when_finished vs p bs) (words_comm ws q r a b (h b (inl refl))) (register_kept ws q r a b (h b (inl refl)))
    ∙ list_comm (words_after ws r b) q (register_after ws r b) a bs (λ c m. h c (inr m))

value_after_list : (ws : List ℤ) (r : ℤ) (bs : List Act) (w : ℕ) → ((b : Act) → Member b bs → is_read b ≡ false → w ≢ word b)
    → value_at (words_when_finished ws r bs) w ≡ value_at ws w
value_after_list ws r [] w h = refl
value_after_list ws r (b ∷ bs) w h =
    value_after_list (words_after ws r b) (register_after ws r b) bs w (λ c m. h c (inr m)) ∙ value_kept ws r b w (h b (inl refl))

pub register_after_list : (ws : List ℤ) (q r : ℤ) (a : Act) (bs : List Act) → ((b : Act) → Member b bs → AreFree a b)
    → register_after (words_when_finished ws r bs) q a ≡ register_after ws q a
register_after_list ws q r (Read w) bs h = refl
register_after_list ws q r (Load w) bs h = value_after_list ws r bs w (λ b m t. (h b m).second t)
register_after_list ws q r (Put w v) bs h = refl
register_after_list ws q r (Fold w op v) bs h = refl

pub length_after : (ws : List ℤ) (r : ℤ) (a : Act) → length (words_after ws r a) ≡ length ws
length_after ws r (Read w) = refl
length_after ws r (Load w) = refl
length_after ws r (Put w v) = length-set ws w v
length_after ws r (Fold w op v) = length-set ws w (fold op r v)
