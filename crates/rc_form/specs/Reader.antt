-- A reader between two tokens.
use Rattle.std.specs.Prelude.{◌≡◌, ◌≤◌, ℕ, List, [], ◌∷◌, length, take, drop, reverse, Bool, ◌||◌, nat_lt, Err}
use Rattle.rc_base.specs.Token.{Token, tokens}
use Rattle.rc_form.specs.Form.{trees_of}
use Rattle.rc_base.specs.Tree.{Tree}
use Rattle.rc_form.specs.Read.{Pending, Reading, read, read_with}
use Rattle.rc_form.specs.declared.form.Form.{Form}
use Rattle.rc_form.specs.declared.fault.FormFail.{FormFail}
use Rattle.rc_form.specs.declared.fault.FormFail.TheVariants.{Fault, Memory}
use Rattle.rc_form.specs.declared.reader.OpenList.{OpenList}
use Rattle.rc_form.specs.declared.reader.FormReader.{FormReader}

-- The forms that stand before the parts of all these lists, of which the innermost is the first. The parts of a list
-- begin where the list says, and those of the lists in it stand behind them.
abbrev pub complete : List OpenList → List Form → List Form
complete [] forms = forms
complete (inner ∷ outer) forms = complete outer (take inner.start forms)

-- these lists with their parts as trees
abbrev pub pendings : List OpenList → List Form → List Pending
pendings [] forms = []
pendings (inner ∷ outer) forms =
    record { from = inner.from; parts = trees_of (drop inner.start forms) } ∷ pendings outer (take inner.start forms)

-- the parts of each of these lists begin within so many forms, and those of the lists around it before
abbrev pub AreWithin : ℕ → List OpenList → Type 0
AreWithin count [] = Unit {0}
AreWithin count (inner ∷ outer) = (inner.start ≤ count) × AreWithin inner.start outer

abbrev pub innermost_first : FormReader → List OpenList
innermost_first reader = reverse reader.open_lists.items

-- the parts of a reader's open lists stand one behind the other
abbrev pub IsInOrder : FormReader → Type 0
IsInOrder reader = AreWithin (length reader.forms.items) (innermost_first reader)

-- what is complete in a reader, and what is open
abbrev pub done_of : FormReader → List Tree
done_of reader = trees_of (complete (innermost_first reader) reader.forms.items)

abbrev pub stack_of : FormReader → List Pending
stack_of reader = pendings (innermost_first reader) reader.forms.items

-- what a reader gives for these tokens
abbrev pub reads : FormReader → List Token → Reading
reads reader tokens = read reader.want (done_of reader) (stack_of reader) tokens

-- what it gives with one more form
abbrev pub reads_with : FormReader → Tree → List Token → Reading
reads_with reader tree tokens = read_with reader.want (done_of reader) (stack_of reader) tree tokens

-- Reading stopped at a fault: it is the one that these tokens have. Nothing is said where memory ran out.
abbrev pub FaultIs : Reading → FormFail → Type 0
FaultIs reading Memory = Unit {0}
FaultIs reading (Fault fault) = reading ≡ Err fault

-- more tokens are wanted
abbrev pub is_reading : FormReader → Bool
is_reading reader = nat_lt 0 (length reader.open_lists.items) || nat_lt (length reader.forms.items) reader.want
