use Rattle.std.proofs.Common.{◌≡◌, ℕ, ◌<◌, length, get_or}
use Rattle.rc_play_spec.specs.Table.{place_of}
use Rattle.rc_table.specs.Whereabouts.{laid_out}
use Rattle.rc_table.proofs.WhereaboutLemmas.{nowhere}
use Rattle.rc_table.proofs.whereabouts.note_all.Given as goal

abbrev pub invariant-loop-loc : goal.invariant-loop-loc
invariant-loop-loc l = record {
  long : length l.stand ≡ length l.shape.faces;
  right : (id : ℕ) → id < length l.shape.faces → (place_of l.shape (laid_out l.lists.all) id).0 < l.loc →
      get_or l.stand id nowhere ≡ place_of l.shape (laid_out l.lists.all) id;
}
