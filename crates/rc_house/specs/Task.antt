-- What commands do with a source, and how much of it they take.
use Rattle.std.specs.Prelude.{◌≡◌, ◌≤◌, ℕ, List, []}
use Rattle.rc_base.specs.Limits.{longest_source, longest_text}
use Rattle.rc_house.specs.declared.task.Task.{Task}
use Rattle.rc_house.specs.declared.task.Task.TheVariants.{Play, Check, Sheet, Migrate, Watch, Measure, Rival}
use Rattle.rc_house.specs.Note.{looks_line}

-- how many lists a command reads from the front of its source
abbrev pub wanted : Task → ℕ
wanted (Play options) = 2
wanted Check = 2
wanted Sheet = 1
wanted Migrate = 2
wanted (Watch seat number) = 2
wanted Measure = 2
wanted (Rival rival) = 2

-- the most bytes that a command takes from its source
abbrev pub limit_of : Task → ℕ
limit_of (Play options) = longest_source
limit_of Check = longest_text
limit_of Sheet = longest_source
limit_of Migrate = longest_text
limit_of (Watch seat number) = longest_source
limit_of Measure = longest_text
limit_of (Rival rival) = longest_source

-- what a command may note where all went well
abbrev pub IsNoteOf : Task → List ℕ → Type 0
IsNoteOf (Play options) note = (looks : ℕ) × (found : ℕ) × (note ≡ looks_line looks found)
IsNoteOf Check note = note ≡ []
IsNoteOf Sheet note = note ≡ []
IsNoteOf Migrate note = note ≡ []
IsNoteOf (Watch seat number) note = note ≡ []
IsNoteOf Measure note = note ≡ []
IsNoteOf (Rival rival) note = note ≡ []

-- a search looks one decision deep at least, over one round at least
abbrev pub CanSearch : Task → Type 0
CanSearch (Play options) = Unit {0}
CanSearch Check = Unit {0}
CanSearch Sheet = Unit {0}
CanSearch Migrate = Unit {0}
CanSearch (Watch seat number) = Unit {0}
CanSearch Measure = Unit {0}
CanSearch (Rival rival) = (1 ≤ rival.depth) × (1 ≤ rival.rounds)
