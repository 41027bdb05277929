use Rattle.std.proofs.Common.{rules, ◌≡◌, Bool, List, map, sym, ap, ◌∙◌}
use Rattle.std.specs.Prelude.{ℤ, Ok}
use Rattle.resolved_code.specs.declared.expressions.TruthCode.{TruthCode, the_lemmas as code_lemmas}
use Rattle.resolved_code.specs.declared.expressions.TruthCode.TheVariants as code
use Rattle.resolved_code.specs.declared.expressions.TruthLink.{TruthLink}
use Rattle.seq_meaning.specs.MainValues.{◌>>=◌, main_truth, truth_operand, truth_rest}
use Rattle.seq_meaning.proofs.MainValueLemmas.{truth_chain_is}
use Rattle.seq_meaning.proofs.values.+main_truth.Goals as goal

-- a chain after its first operand
chain_after : (scalars : List ℤ) (e first : TruthCode) (rest links : List TruthLink) (b : Bool) → e ≡ code.Chain first rest → Ok b ≡ main_truth scalars first → links ≡ rest
    → main_truth scalars e ≡ truth_rest b (map (truth_operand scalars) links)
chain_after scalars e first rest links b is value same =
    ap (main_truth scalars) is ∙ truth_chain_is scalars first rest ∙ ap (λ r. r >>= λ b. truth_rest b (map (truth_operand scalars) rest)) (sym value)
    ∙ ap (λ rest. truth_rest b (map (truth_operand scalars) rest)) (sym same)

pub truth-truth_chain-requires : goal.truth-truth_chain-requires
truth-truth_chain-requires t c =
    (rw (c.as_slice.ensures) (search (rules, code_lemmas)), λ e. c.requires (chain_after _ _ _ _ _ _ c.in-Chain.is (c.in_ok-b-in-Chain.ensures ∙ ap (main_truth c.args.scalars.now) c.get-in-Chain.ensures) c.as_slice.ensures ∙ e))

pub truth-returns-in_ok-b-in-Chain : goal.truth-returns-in_ok-b-in-Chain
truth-returns-in_ok-b-in-Chain t c =
    c.truth_chain.ensures ∙ sym (chain_after _ _ _ _ _ _ c.in-Chain.is (c.in_ok-b-in-Chain.ensures ∙ ap (main_truth c.args.scalars.now) c.get-in-Chain.ensures) c.as_slice.ensures)
