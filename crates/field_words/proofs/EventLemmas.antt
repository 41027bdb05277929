-- Events through a seat are acts of the batch machine.
use Rattle.std.proofs.Common.{◌≡◌, ◌<◌, ℕ, ℤ, pos, Bool, true, false, cond, eqb, eqb-true, List, ◌∷◌, length, set, Some, refl, sym, ap, ◌∙◌, subst, get_or-set_other, get_or-set_same}
use Rattle.std.proofs.lemmas.Bool.{eqb-false}
use Rattle.liszt_base.specs.Reductions.{fold}
use Rattle.batch_core.specs.declared.acts.Act.{Act}
use Rattle.batch_core.specs.declared.acts.Act.TheVariants.{Read, Load, Put, Fold}
use Rattle.batch_core.specs.Machine.{register_after, value_at, word, words_after}
use Rattle.field_words.specs.Maps.{WordMap, value_in}
use Rattle.field_words.specs.Holdings.{Holding}
use Rattle.field_words.specs.Events.{HaveValues, IsEvent}

stored : (words : List ℤ) (m : WordMap) (x : ℕ) (u : ℤ) → x < length words → HaveValues words m → HaveValues (set words x u) ((x, u) ∷ m)
stored words m x u inside h y w e = go (eqb x y) refl e
  where
    go : (b : Bool) → eqb x y ≡ b → cond b (Some u) (value_in m y) ≡ Some w → value_at (set words x u) y ≡ w
    go true is q = ap (value_at (set words x u)) (sym (eqb-true x y is)) ∙ (get_or-set_same words x u (pos 0) inside ∙ cc)
    go false is q = get_or-set_other words x y u (pos 0) (λ z. eqb-false x y is (sym z)) ∙ h y w q

same_own : (words : List ℤ) (h k j : Holding) → k ≡ j → HaveValues words j.own → HaveValues words k.own
same_own words h k j e v = subst (λ (z : Holding). HaveValues words z.own) (sym e) v

pub event_is_act : (a : Act) (words : List ℤ) (h k : Holding) (register after : ℤ) → word a < length words → HaveValues words h.own
    → IsEvent a h register k after → HaveValues (words_after words register a) k.own × (after ≡ register_after words register a)
event_is_act (Read x) words h k register after inside v e = (same_own words h k _ e.1 v, e.2)
event_is_act (Load x) words h k register after inside v e = (same_own words h k _ e.1 v, sym (v x after e.0))
event_is_act (Put x u) words h k register after inside v e = (same_own (set words x u) h k _ e.1 (stored words h.own x u inside v), e.2)
event_is_act (Fold x op u) words h k register after inside v e =
    (same_own (set words x (fold op register u)) h k _ e.1 (stored words h.own x (fold op register u) inside v), e.2)
