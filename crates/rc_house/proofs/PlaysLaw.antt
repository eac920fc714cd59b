-- What `play` writes for a source tells plays.
use Rattle.std.proofs.Common.{ℕ, List, [], ◌∷◌, sym, subst}
use Rattle.rc_base.specs.Tree.{Tree}
use Rattle.rc_sheet_spec.specs.Sheet.{Sheet}
use Rattle.rc_play_spec.specs.About.{about_of}
use Rattle.rc_play_spec.specs.Plan.{Plan}
use Rattle.rc_play_spec.specs.PlayedLaws.{house_text_in}
use Rattle.rc_house.specs.Words.{is_named}
use Rattle.rc_house.specs.declared.task.Task.TheVariants.{Play}
use Rattle.rc_house.specs.Reading.{IsAcceptedWith}
use Rattle.rc_house.specs.Answer.{text, IsAnswered, form_faulty, sheet_faulty, plan_faulty, accepted}
use Rattle.rc_house.specs.Plays.{TellsPlays, TellsPlaysBehind, WrittenIsPlayed}
use Rattle.rc_house.proofs.PlaysLemmas.{house_tells}
use Rattle.rc_house.proofs.PlayedLaws.{same_bytes}

pub written_played : WrittenIsPlayed
written_played options source bytes note playouts (form_faulty kind at has is) = absurd cc
written_played options source bytes note playouts (sheet_faulty read kind at has is) = absurd cc
written_played options source bytes note playouts (plan_faulty read kind at has is) = absurd cc
written_played options source bytes note playouts (accepted read has) = (read, by read.lists has)
  where
    by : (lists : List Tree) → IsAcceptedWith (λ sheet others. IsAnswered (Play options) source sheet others read.rest (text bytes note playouts)) lists
        → IsAcceptedWith (TellsPlaysBehind (is_named options.format) source read.rest bytes) lists
    by [] has = absurd has
    by (form ∷ others) has =
        let sheet : Sheet = has.0 in
        let plan : Plan = has.2.0 in
        let named = is_named options.format in
        let house : List ℕ = house_text_in named (about_of sheet plan.turns) plan in
        let written = same_bytes bytes house note _ playouts _ has.2.2.2 in
        (sheet, has.1, (plan, has.2.1, subst (TellsPlays named sheet plan) (sym written) (house_tells sheet plan has.1.of_form.well has.1.sight named)))
