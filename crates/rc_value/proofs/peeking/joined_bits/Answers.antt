use Rattle.std.proofs.Common.{◌&&◌, ◌||◌, not, ap, ◌∙◌, arith}
use Rattle.rc_play_spec.specs.Effects.{is_named as is_named_by}
use Rattle.rc_play_spec.specs.Sees.{sees as sees_faces}
use Rattle.rc_play_spec.specs.Shape.{Shape}
use Rattle.rc_play_spec.specs.Table.{is_marked}
use Rattle.rc_value.specs.Shown.{is_shown_to}
use Rattle.rc_value.proofs.ShownLemmas.{seats_of_bits, few_within}
use Rattle.rc_value.proofs.peeking.joined_bits.Goals as goal

pub returns : goal.returns
returns c =
    let shape = c.args.table.now.shape in
    let marks = c.args.table.now.table.marks in
    let same = ap (λ (s : Shape). s.players) c.shape.ensures.shape in
    let limit = c.players-players.ensures.limits.players in
    seats_of_bits c.bit-first.result c.bit-second.result c.bit-third.result c.bit-fourth.result
    c.bit-fifth.result c.bit-sixth.result c.bit-seventh.result c.bit-eighth.result
    c.bit-first.ensures.few c.bit-second.ensures.few c.bit-third.ensures.few c.bit-fourth.ensures.few
    c.bit-fifth.ensures.few c.bit-sixth.ensures.few c.bit-seventh.ensures.few c.bit-eighth.ensures.few
    (is_shown_to shape marks c.args.id c.args.loc c.args.class c.args.owner)
    c.bit-first.ensures.bit c.bit-second.ensures.bit c.bit-third.ensures.bit c.bit-fourth.ensures.bit
    c.bit-fifth.ensures.bit c.bit-sixth.ensures.bit c.bit-seventh.ensures.bit c.bit-eighth.ensures.bit
    ∙ few_within (λ seat. is_marked marks seat c.args.id || (is_named_by shape c.args.class c.args.owner seat && not (sees_faces shape seat c.args.loc)))
    shape.players (omega (arith, same, limit))
