-- The activation with which an iteration starts. This project's own.
use Rattle.std.specs.Prelude.{ℕ, Some}
use Rattle.std.specs.List.{slice_set}
use Rattle.liszt_base.specs.declared.elements.Elem.{Elem}
use Rattle.code_eval.specs.declared.activation.Activation.{Activation}

abbrev pub started : Elem → ℕ → Activation → Activation
started x turns a = record a { elements = slice_set a.elements 0 (Some x); turns = turns; elem = x }
