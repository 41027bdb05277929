use Rattle.std.proofs.Common.{◌<◌, length, get_or, ap, sym, subst, ◌∙◌}
use Rattle.liszt_base.specs.declared.answers.Refused.TheVariants.{Fault}
use Rattle.liszt_lexer.specs.declared.token.Token.{Token}
use Rattle.liszt_parser.specs.ParseFault.{fault_at}
use Rattle.liszt_parser.proofs.ParsedLemmas.{place_of_token}
use Rattle.liszt_parser.proofs.parser.fault_of.Goals as goal

pub returns-then-place-all : goal.returns-then-place-all
returns-then-place-all c = λ text.
    let all = c.args.tokens.now.tokens in
    let lt = subst (λ ts. c.args.place < length ts) c.as_slice-all.ensures c.if-place-all.true in
    ap (λ place. Fault (fault_at c.args.what place))
    (ap (λ ts. (get_or {A = Token} ts c.args.place _).place) c.as_slice-all.ensures ∙ sym (place_of_token text all c.args.tokens.now.end c.args.place _ lt))
