-- The behaviour of a shelf or a sink in memory: the bytes that
-- a call moves, and which calls fail. This project's own.
use Rattle.std.specs.Prelude.{◌≡◌, ◌==◌, ℕ, Bool}
use Rattle.std.specs.List.{list_any}
use Rattle.liszt_io.specs.Causes.{one_more}
use Rattle.liszt_io.specs.declared.script.Script.{Script}

-- The number of the next call, from 1.
abbrev pub next_call : Script → ℕ
next_call s = one_more s.calls

-- Whether the next call fails: its number is in the list.
abbrev pub fails_next : Script → Bool
fails_next s = list_any (λ n. n == next_call s) s.fails

-- One call later.
pub record IsCallLater (before now : Script) : Type 0 where
  pub calls : now.calls ≡ next_call before
  pub step : now.step ≡ before.step
  pub fails : now.fails ≡ before.fails
