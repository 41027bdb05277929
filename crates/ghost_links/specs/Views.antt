-- What the rule knows of a seat, and what each kind of step does to it. This project's own.
use Rattle.std.specs.Prelude.{ℕ, ◌+◌, ◌%◌, Bool, true, false, not, cond, eqb, List, [], ◌++◌}
use Rattle.std.specs.declared.option.Option.TheVariants.{Some}
use Rattle.ghost_links.specs.declared.view.End.{End}
use Rattle.ghost_links.specs.declared.view.View.{View}
use Rattle.ghost_links.specs.Layouts.{Layout}
use Rattle.ghost_links.specs.Scripts.{LinkScript, script_over}
use Rattle.ghost_links.specs.Ends.{EndMap, idle_end, busy_end, with_change, restriction, all_ends, rank_of_end}

abbrev pub view : Layout → LinkScript → EndMap → Bool → ℕ → View
view layout script ends joined steps =
    record { layout = layout; script = script; ends = ends; joined = joined; steps = steps }

abbrev pub no_layout : Layout
no_layout = record { ranks = 0; firsts = [] }

-- the one view of a table whose script is not set yet
abbrev pub opening_view : View
opening_view = view no_layout [] [] false 0

-- the view of the first seat: all ends
abbrev pub first_view : Layout → (ℕ → ℕ → List (List ℕ)) → View
first_view layout packets = view layout (script_over layout.ranks packets) (all_ends layout.ranks) false 0

-- the view of a seat that was joined into another
abbrev pub spent_view : View
spent_view = view no_layout [] [] true 0

-- a step that changes no end, and one that changes an end
abbrev pub counted_view : View → View
counted_view v = view v.layout v.script v.ends v.joined (v.steps + 1)

abbrev pub changed_view : ℕ → (End → End) → View → View
changed_view x f v = view v.layout v.script (with_change x f v.ends) v.joined (v.steps + 1)

abbrev pub is_even : ℕ → Bool
is_even word = eqb (word % 2) 0

-- A sender's load of an even turn word makes its end busy with no word put; a receiver's load of an odd one makes its
-- end busy.
abbrev pub after_sender_load : ℕ → End → End
after_sender_load word e = cond (is_even word) (busy_end e.next 0 (Some word)) (idle_end e.next (Some word))

abbrev pub after_receiver_load : ℕ → End → End
after_receiver_load word e = cond (is_even word) (idle_end e.next (Some word)) (busy_end e.next 0 (Some word))

-- a data store
abbrev pub after_data_store : End → End
after_data_store e = busy_end e.next (e.put + 1) e.last

-- a store of the turn word, by the sender or by the receiver
abbrev pub after_turn_store : End → End
after_turn_store e = idle_end (e.next + 1) e.last

-- a split that hands over the ends of a rank: the view of the seat, and of the new one
abbrev pub kept_view : ℕ → View → View
kept_view rank v = view v.layout v.script
    (restriction (λ x. not (eqb (rank_of_end v.layout.ranks x) rank)) v.ends) v.joined (v.steps + 1)

abbrev pub handed_view : ℕ → View → View
handed_view rank v = view v.layout v.script
    (restriction (λ x. eqb (rank_of_end v.layout.ranks x) rank) v.ends) false 0

-- a join
abbrev pub joined_view : View → View → View
joined_view v w = view v.layout v.script (v.ends ++ w.ends) v.joined (v.steps + 1)
