use Rattle.std.proofs.Common.{ℤ, SFits, w64, sym, subst, arith}
use Rattle.std.proofs.lemmas.Int.{ints, to_z-of_z}
use Rattle.rc_base.specs.Clamp.{IsWithinClamp}
use Rattle.rc_play_spec.specs.Table.{Table, IsSound, set_number}
use Rattle.rc_table.specs.Laid.{IsLaid}
use Rattle.rc_table.proofs.table.Table.set_number.Goals as goal
use Rattle.rc_table.proofs.table.Table.set_number.Goals.{in-Some, in_default}

fits_eight : (z : ℤ) → IsWithinClamp z → SFits w64 z
fits_eight z (least, most) = omega (arith, ints, least, most)

pub invariant_of-self : goal.invariant_of-self
invariant_of-self c =
    let shape = c.self.inside.shape.value in
    let table : Table = record { lists = c.self.inside.lists.all; numbers = c.self.inside.numbers.items; marks = c.self.inside.marks } in
    elim c.match-get_mut.branch [
      | in-Some w ↦ subst (λ i. IsLaid (record { shape = i.shape.value; table = record { lists = i.lists.all; numbers = i.numbers.items; marks = i.marks } }) i.lists.room i.whereabouts.items)
          (sym w.self-inside-is)
          (record {
            limits = c.self.invariant.limits;
            sound = subst (λ value. IsSound shape (set_number c.args.num value table)) (sym (to_z-of_z w64 c.args.value (fits_eight c.args.value c.requires.clamped)))
                (c.edits_keep_tables_sound.ensures.number shape table c.args.num c.args.value c.self.invariant.sound c.requires.clamped);
            fits = c.self.invariant.fits;
            noted = c.self.invariant.noted;
          })
      | in_default w ↦ subst (λ i. IsLaid (record { shape = i.shape.value; table = record { lists = i.lists.all; numbers = i.numbers.items; marks = i.marks } }) i.lists.room i.whereabouts.items)
          (sym w.self-inside-is) c.self.invariant
    ]
