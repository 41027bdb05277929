use Rattle.std.proofs.Common.{◌≡◌, not, Bool, ℕ, ◌<◌, ◌≤◌, length, get_or, true, false, sym, rules}
use Rattle.std.proofs.lemmas.List.Sums.{position_or_len_is}
use Rattle.text_scan.specs.Rows.{is_blank}
use Rattle.text_scan.proofs.pieces.word_position.Goals as goal

pub returns-clause-position : goal.returns-clause-position
returns-clause-position c =
    let xs = c.args.bytes.now in
    let i = c.unwrap_or.result in
    let test : ℕ → Bool = (λ b. not (is_blank b)) in
    let within : i ≤ length xs = search rules in
    let before : (k : ℕ) → k < i → test (get_or xs k 0) ≡ false = λ k lt. search rules in
    let found : i < length xs → test (get_or xs i 0) ≡ true = λ lt. search rules in
    sym (position_or_len_is test xs i 0 within before found)
