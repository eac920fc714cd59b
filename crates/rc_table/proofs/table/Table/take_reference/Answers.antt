use Rattle.std.proofs.Common.{sym, subst, ◌∙◌}
use Rattle.rc_play_spec.specs.Bound.{HoldsReferences}
use Rattle.rc_play_spec.specs.Table.{IsSound}
use Rattle.rc_table.specs.Laid.{Laid}
use Rattle.rc_table.specs.Restored.{taken_at}
use Rattle.rc_table.proofs.WhereaboutEdits.{references_noted}
use Rattle.rc_table.proofs.table.Table.take_reference.Goals as goal

pub invariant_of-self : goal.invariant_of-self
invariant_of-self c =
    let sound = subst (λ (laid : Laid). IsSound laid.shape (taken_at c.args.loc c.args.at laid.table)) (sym c.self.view_is) c.requires.sound in
    let mem = subst (λ (laid : Laid). HoldsReferences laid.shape c.args.loc) (sym c.self.view_is) c.requires.mem in
    rw c.take_out.ensures
    (record {
      limits = c.self.invariant.limits;
      sound = sound;
      fits = c.self.invariant.fits;
      noted = c.self.invariant.noted ∙ references_noted _ _ c.self.invariant.sound c.args.loc _ mem sound;
    })
