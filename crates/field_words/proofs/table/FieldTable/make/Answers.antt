use Rattle.std.proofs.Common.{◌≡◌, ℕ, sym, ap, ◌∙◌, subst, rules, ◌+◌, [], refl, replicate, length}
use Rattle.std.proofs.lemmas.List.{length-replicate}
use Rattle.atomic_table.specs.Table.{opening}
use Rattle.field_words.specs.Ownership.{IsOwned}
use Rattle.field_words.specs.Views.{first_view}
use Rattle.field_words.proofs.SeatLemmas.{first_seat, seat_invariant}
use Rattle.field_words.proofs.StepLemmas.{first_state_owned}
use Rattle.field_words.proofs.table.FieldTable.make.Goals as goal

pub of_words-requires : goal.of_words-requires
of_words-requires c =
    let n : c.from.result ≡ c.args.words = search rules in
    let zeros : c.as_slice.result.now ≡ replicate (c.args.words + 1) 0 = search rules in
    let at_n : (m : ℕ) → m ≡ c.args.words → IsOwned m (opening (replicate (c.args.words + 1) 0) [] (first_view m)) =
    λ m e. subst (λ k. IsOwned k (opening (replicate (c.args.words + 1) 0) [] (first_view k))) (sym e) (first_state_owned c.args.words) in
    subst (λ ws. IsOwned c.from.result (opening ws [] (first_view c.from.result))) (sym zeros) (at_n c.from.result n)

pub invariant_of-result-2 : goal.invariant_of-result-2
invariant_of-result-2 c =
    let e = c.in_ok-table.ensures in
    let n : c.from.result ≡ c.args.words = search rules in
    let zeros : c.as_slice.result.now ≡ replicate (c.args.words + 1) 0 = search rules in
    let words : c.in_ok-table.table.shared.table_id.words ≡ c.from.result + 1 =
    e.0 ∙ (ap length zeros ∙ (length-replicate (c.args.words + 1) 0 ∙ ap (λ k. k + 1) (sym n))) in
    seat_invariant c.in_ok-table.table.shared.table_id c.in_ok-table.seat.table_id c.in_ok-table.seat.me _ [] e.2 e.4 refl
    (first_seat c.from.result c.in_ok-table.table.shared.table_id.words words)
