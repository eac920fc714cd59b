use Rattle.std.proofs.Common.{◌≡◌, length, arith}
use Rattle.std.proofs.lemmas.List.{length-take}
use Rattle.rc_play_spec.specs.Redraw.{known_faces}
use Rattle.rc_redraw.proofs.NoneKnown.{all_unknown}
use Rattle.rc_redraw.proofs.places.mix.Goals as goal

pub slice_bounds-extend_from_slice-end : goal.slice_bounds-extend_from_slice-end
slice_bounds-extend_from_slice-end c =
    let count = c.count_known.ensures in
    let test = c.if-count_known-eq0.true in
    let none : 0 ≡ length (known_faces c.args.numbers.now) = omega (arith, count, test) in
    let all = all_unknown c.args.numbers.now none in
    let enough = c.requires.hidden in
    let cut = length-take (length c.args.numbers.now) c.args.hidden.now in
    omega (arith, all, enough, cut)
