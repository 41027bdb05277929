use Rattle.std.proofs.Common.{◌≡◌, ◌≤◌, ◌+◌, ◌&&◌, ◌||◌, ap, sym, subst, ◌∙◌}
use Rattle.std.specs.Prelude.{not}
use Rattle.std.specs.List.{All}
use Rattle.liszt_parser.specs.Internal.Operands.{is_symbol_kind, nested_brackets, kind_ends_operand, operands_step}
use Rattle.liszt_parser.proofs.NestingLemmas.{operands_step_few, takes, one_if, opens_by, closes_by, byte_is}
use Rattle.liszt_parser.proofs.operand.Nesting.take.Goals as goal

pub invariant_of-self : goal.invariant_of-self
invariant_of-self c =
    let opened : one_if (opens_by c.args.kind) ≡ c.from.result = sym (c.from.ensures ∙ byte_is c.is_opening.result ∙ ap one_if c.is_opening.ensures) in
    let few = operands_step_few c.is_prefix-prefix.result c.args.self.now.operands.items c.args.kind c.args.self.now.opened c.args.self.now.few in
    let is = c.in_ok-self.ensures ∙ ap (λ os. operands_step c.is_prefix-prefix.result os c.args.kind) c.as_slice.ensures.value in
    record {
      few =
          subst (λ n. All (λ o. nested_brackets o ≤ c.args.self.now.opened + n) c.in_ok-self.field-0.items) opened
          (subst (All (λ o. nested_brackets o ≤ c.args.self.now.opened + one_if (opens_by c.args.kind))) (sym is) few);
    }

pub returns : goal.returns
returns c = λ front t n k.
    let is = c.in_ok-self.ensures ∙ ap (λ os. operands_step c.is_prefix-prefix.result os c.args.kind) c.as_slice.ensures.value in
    let after = c.args.self.now.after_operand in
    takes front t c.args.self.now _ n
    (ap (λ m. c.args.self.now.opened + m) (c.from.ensures ∙ byte_is c.is_opening.result ∙ ap one_if c.is_opening.ensures ∙ ap (λ kind. one_if (opens_by kind)) (sym k)))
    (ap (λ m. c.args.self.now.closed + m) (c.from-2.ensures ∙ byte_is c.is_closing.result ∙ ap one_if c.is_closing.ensures ∙ ap (λ kind. one_if (closes_by kind)) (sym k)))
    (c.ends_operand-self.ensures ∙ ap kind_ends_operand (sym k))
    (is ∙ ap (λ p. operands_step p c.args.self.now.operands.items c.args.kind) c.is_prefix-prefix.ensures
    ∙ ap (λ kind. operands_step (is_symbol_kind 21 kind || (is_symbol_kind 17 kind && not after)) c.args.self.now.operands.items kind) (sym k))
