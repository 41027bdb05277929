-- A typed body writes no scalar, as it assigns scalars by reductions alone, and only reads built-in fields.
use Rattle.std.proofs.Common.{◌≡◌, ◌⊎◌, ℕ, Bool, true, false, refl, subst, inl, inr}
use Rattle.std.specs.Prelude.{Option, Some}
use Rattle.liszt_base.specs.declared.accesses.Mode.{Mode}
use Rattle.liszt_base.specs.declared.accesses.Mode.TheVariants.{Read, Write}
use Rattle.liszt_base.specs.declared.elements.Kind.{Kind}
use Rattle.liszt_tree.specs.declared.tree.How.{How}
use Rattle.liszt_tree.specs.declared.tree.How.TheVariants.{Set, Fold, Less}
use Rattle.liszt_tree.specs.Tree.{Expression, Number, Name, Field, Call, Towards, Neg, Not, Chain, Compare, Links, no_links, link, Statement, Body}
use Rattle.phase_types.specs.Environments.{Environment, Binding, FieldName, ScalarName, binding_of, is_built_in, Comprehension}
use Rattle.phase_types.specs.Typed.{IsReduction, StatementFits, FitsVar, FitsVal, FitsField, FitsScalar, FitsLocal, FitsIf, FitsWhile, FitsFor, BodyFits, FitsNothing, FitsThen, ComprehensionFits}
use Rattle.phase_types.specs.Walk.{Subject, OfField, OfScalar, mode_by}
use Rattle.kernel_eval.proofs.AccessLemmas.{Agree, agree_at, agree_element, after_environment, agrees_with_itself}
use Rattle.kernel_eval.proofs.TraversalLemmas.{Access, TouchesField, TouchesScalar, Touches, LinksTouch, StatementTouches, BodyTouches}

abbrev MayHave : Subject → Mode → Type 0
MayHave (OfField number) mode = is_built_in number ≡ true → mode ≡ Read
MayHave (OfScalar number) Write = ⊥
MayHave (OfScalar number) _ = Unit {0}

abbrev pub IsAllowed : Access → Type 0
IsAllowed a = MayHave a.0 a.1

not_both : (b : Bool) → b ≡ false → b ≡ true → ⊥
not_both b h h' = cc

module _ (globals : Environment) (a : Access) where
  of_field : (global : Option Binding) → TouchesField global Read a → IsAllowed a
  of_field (Some (FieldName number kind)) t = subst IsAllowed t (λ built_in. refl)
  of_field _ t = absurd t

  of_own_field : (global : Option Binding) (number : ℕ) (kind : Kind) (mode : Mode) → global ≡ Some (FieldName number kind) → is_built_in number ≡ false → TouchesField global mode a
      → IsAllowed a
  of_own_field global number kind mode is own t =
      subst IsAllowed (subst (λ global. TouchesField global mode a) is t) (λ built_in. absurd (not_both (is_built_in number) own built_in))

  reduced : (number : ℕ) (how : How) → IsReduction how → IsAllowed (OfScalar number, mode_by how)
  reduced number Set h = absurd h
  reduced number (Fold op) h = tt
  reduced number Less h = tt

  of_scalar : (global : Option Binding) (how : How) → IsReduction how → TouchesScalar global (mode_by how) a → IsAllowed a
  of_scalar (Some (ScalarName number)) how h t = subst IsAllowed t (reduced number how h)
  of_scalar _ how h t = absurd t

  both : {X Y : Type 0} → (X → IsAllowed a) → (Y → IsAllowed a) → X ⊎ Y → IsAllowed a
  both f g (inl t) = f t
  both f g (inr t) = g t

  mutual
    of_expression : (e : Expression) → Touches globals a e → IsAllowed a
    of_expression (Number place n) t = absurd t
    of_expression (Name place name) t = absurd t
    of_expression (Field place name arg) t = both (of_expression arg) (of_field (binding_of globals name)) t
    of_expression (Call place fun arg) t = of_expression arg t
    of_expression (Towards place arg to) t = both (of_expression arg) (of_expression to) t
    of_expression (Neg place arg) t = of_expression arg t
    of_expression (Not place arg) t = of_expression arg t
    of_expression (Chain level first links) t = both (of_expression first) (of_links links) t
    of_expression (Compare place rel left right) t = both (of_expression left) (of_expression right) t

    of_links : (links : Links) → LinksTouch globals a links → IsAllowed a
    of_links no_links t = absurd t
    of_links (link sign place arg rest) t = both (of_expression arg) (of_links rest) t

  mutual
    of_statement : {environment after_environment : Environment} {s : Statement} → Agree globals environment → StatementFits environment s after_environment → StatementTouches globals a s → IsAllowed a
    of_statement g (FitsVar {init = init} place name at h new) t = of_expression init t
    of_statement g (FitsVal {init = init} place name at h new) t = of_expression init t
    of_statement g (FitsField {number = number} {kind = kind} {target = target} {set_to = set_to} place name how is own h value) t =
        both (both (of_expression target) (of_own_field (binding_of globals name) number kind (mode_by how) (agree_at g name is) own)) (of_expression set_to) t
    of_statement g (FitsScalar {set_to = set_to} place name how is reduces value) t =
        both (of_scalar (binding_of globals name) how reduces) (of_expression set_to) t
    of_statement g (FitsLocal {set_to = set_to} place name how is value) t =
        both (λ t. absurd (agree_at g name is (mode_by how) a t)) (of_expression set_to) t
    of_statement g (FitsIf {test = test} place has_else h first second) t = both (both (of_expression test) (of_body g first)) (of_body g second) t
    of_statement g (FitsWhile {test = test} place h body) t = both (of_expression test) (of_body g body) t
    of_statement g (FitsFor {arg = arg} place name at set set_at h has new body) t = both (of_expression arg) (of_body (agree_element g name _) body) t

    of_body : {environment : Environment} {body : Body} → Agree globals environment → BodyFits environment body → BodyTouches globals a body → IsAllowed a
    of_body g (FitsNothing environment) t = absurd t
    of_body g (FitsThen s rest) t = both (of_statement g s) (of_body (after_environment g s).0 rest) t

pub all_allowed : (c : Comprehension) → ComprehensionFits c → (a : Access) → BodyTouches c.environment a c.body → IsAllowed a
all_allowed c fits a t =
    of_body c.environment a (agree_element (record { agrees = λ name. agrees_with_itself (binding_of c.environment name) }) c.name c.over) fits.body_fits t
