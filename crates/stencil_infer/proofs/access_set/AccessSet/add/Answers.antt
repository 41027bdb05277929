use Rattle.std.proofs.Common.{[], ◌∷◌, ◌++◌, subst, sym}
use Rattle.stencil_infer.specs.Internal.AccessSets.{HasMembers}
use Rattle.stencil_infer.proofs.SetLemmas.{added_members, added_full}
use Rattle.stencil_infer.proofs.access_set.AccessSet.add.Goals as goal

pub returns-then-self : goal.returns-then-self
returns-then-self c = record {
  adds = λ past h.
      let g = c.make_room.ensures past h in
      record { members = λ e. let full = c.if-self.true in absurd cc; full = λ e. added_full past (c.args.access ∷ []) (g.full e) };
}

pub returns : goal.returns
returns c = record {
  adds = λ past h.
      let g = c.make_room.ensures past h in
      record {
        members = λ e one. subst (HasMembers (past ++ c.args.access ∷ [])) (sym c.in_ok-push.ensures.items)
            (added_members past c.make_room.new.self.items.items (c.args.access ∷ []) (g.members c.if-self.false) one);
        full = λ e. let room = c.if-self.false in absurd cc;
      };
}
