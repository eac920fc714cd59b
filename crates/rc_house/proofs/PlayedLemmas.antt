-- What is played of a sheet and a plan that are accepted is the command's answer.
use Rattle.std.proofs.Common.{◌≡◌, ℕ, List}
use Rattle.rc_base.specs.Spelled.{Spelled}
use Rattle.rc_base.specs.Tree.{Tree}
use Rattle.rc_sheet_spec.specs.Sheet.{Sheet}
use Rattle.rc_play_spec.specs.Plan.{Plan}
use Rattle.rc_house.specs.declared.options.Options.{Options}
use Rattle.rc_house.specs.declared.task.Task.TheVariants.{Play}
use Rattle.rc_house.specs.AcceptedPlan.{IsPlanned}
use Rattle.rc_house.specs.Reading.{IsAcceptedWith}
use Rattle.rc_house.specs.Answer.{IsGameOf}
use Rattle.rc_house.proofs.SourceAnswers.{accepted_answer}

pub game_is : (options : Options) (source : List ℕ) (lists : List Tree) (rest : ℕ) (sheet : Sheet) (plan : Plan)
    → Spelled source 2 lists rest → IsAcceptedWith (λ other _. other ≡ sheet) lists → IsPlanned source sheet.players lists rest plan
    → IsGameOf (Play options) source sheet plan
game_is options source lists rest sheet plan spelled is planned = λ answer played.
    accepted_answer (Play options) source lists rest sheet answer spelled is (λ form others listed. (plan, planned form others listed, played))
