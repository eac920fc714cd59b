-- Statements of laws of what commands answer.
use Rattle.std.specs.Prelude.{◌≡◌, ℕ, List, []}
use Rattle.rc_house.specs.declared.options.Options.{Options}
use Rattle.rc_house.specs.declared.task.Task.{Task}
use Rattle.rc_house.specs.declared.task.Task.TheVariants.{Play, Sheet}
use Rattle.rc_house.specs.Answer.{Answer, text, AreAlike, HasAnswer, IsAlone}

-- a command of one worker has at most one answer to a source
abbrev pub OneAnswer : Type 0
OneAnswer = (task : Task) (source : List ℕ) (answer other : Answer) → IsAlone task
    → HasAnswer task source answer → HasAnswer task source other → other ≡ answer

-- the answers of any command to a source differ in their notes alone
abbrev pub AnswersAreAlike : Type 0
AnswersAreAlike = (task : Task) (source : List ℕ) (answer other : Answer)
    → HasAnswer task source answer → HasAnswer task source other → AreAlike answer other

-- each command has an answer to each source
abbrev pub SomeAnswer : Type 0
SomeAnswer = (task : Task) (source : List ℕ) → (answer : Answer) × HasAnswer task source answer

-- Whoever plays, with whatever book, the answers of `play` to a source have one text in each format. Outcome.antt says
-- that it is what is written.
abbrev pub TextsAreTheSame : Type 0
TextsAreTheSame = (options others : Options) (source bytes bytes' note note' : List ℕ) (playouts playouts' : ℕ)
    → options.format ≡ others.format
    → HasAnswer (Play options) source (text bytes note playouts)
    → HasAnswer (Play others) source (text bytes' note' playouts')
    → bytes ≡ bytes'

-- what `sheet` answers to a source, it answers to that text too
abbrev pub PrintedAgain : Type 0
PrintedAgain =
    (source bytes : List ℕ) → HasAnswer Sheet source (text bytes [] 0) → HasAnswer Sheet bytes (text bytes [] 0)
