use Rattle.std.proofs.Common.{◌≡◌, ℕ, List, [], length, Result, Ok, Err}
use Rattle.std.specs.Result.{IfOk, IfErr}
use Rattle.std.specs.List.{All, flat_map}
use Rattle.rc_base.specs.Token.{tokens}
use Rattle.rc_base.specs.Tree.{Tree, spelling}
use Rattle.rc_base.specs.Spelled.{Spelled, IsTopList, next_offset}
use Rattle.rc_form.specs.Form.{tree_of, trees_of, IsPrintable}
use Rattle.rc_form.specs.FormFault.{IsFormFault, IfFormFault}
use Rattle.rc_form.specs.Lexer.{tokens_at}
use Rattle.rc_form.specs.Read.{read}
use Rattle.rc_form.specs.Reader.{FaultIs}
use Rattle.rc_form.specs.declared.fault.FormKind.{FormKind}
use Rattle.rc_form.specs.declared.fault.FormFail.{FormFail}
use Rattle.rc_form.specs.declared.fault.FormFail.TheVariants.{Fault, Memory}
use Rattle.rc_form.specs.declared.reading.Forms.{Forms}
use Rattle.rc_form.proofs.SpellingLaws.{read-Spelled, Spelled-from_read, tokens-all, Spelled-unique}
use Rattle.rc_form.proofs.FaultLaws.{IsFirstFault-unique}
use Rattle.rc_form.proofs.ReadIsFault.{fault-from_read, no_fault-from_read}
use Rattle.rc_form.specs.SameForm.{IsOfAtoms}
use Rattle.rc_form.proofs.AtomsAreRead.{All-of_atoms-spelled}
use Rattle.rc_base.specs.Placed.{IsPlaced}
use Rattle.rc_form.proofs.Placed.{All-placed}
use Rattle.rc_form.proofs.TopLists.{All-top, All-printable}
use Rattle.rc_form.proofs.reading.read_forms.Goals as goal

-- these forms are what reading gives
abbrev Reads : List ℕ → ℕ → Forms → Type 0
Reads text want f = read want [] [] (tokens text) ≡ Ok (trees_of f.list.items, tokens_at text f.rest)

-- behind them the next token begins
abbrev Rests : List ℕ → Forms → Type 0
Rests text f = f.rest ≡ next_offset (tokens_at text f.rest) (length text)

-- what follows for the forms that are read
IfOk-read : (text : List ℕ) (want : ℕ) (r : Result Forms FormFail) → IfOk r (Reads text want) → IfOk r (Rests text)
    → (P : Forms → Type 0) → ((f : Forms) → Reads text want f → Rests text f → P f) → IfOk r P
IfOk-read text want (Ok f) reads rests P follows = follows f reads rests
IfOk-read text want (Err fail) reads rests P follows = tt

-- the forms that are read are spelled
is_spelled : (text : List ℕ) (want : ℕ) (f : Forms) → Reads text want f → Rests text f → Spelled text want (trees_of f.list.items) f.rest
is_spelled text want f reads rests = Spelled-from_read text want (trees_of f.list.items) (tokens_at text f.rest) f.rest reads rests

-- the fault at which reading stops is the first
IfErr-fault : (text : List ℕ) (want : ℕ) (r : Result Forms FormFail) → IfErr r (FaultIs (read want [] [] (tokens text)))
    → IfErr r (λ fail. IfFormFault fail (λ f. IsFormFault text want f.kind f.at))
IfErr-fault text want (Ok f) is = tt
IfErr-fault text want (Err Memory) is = tt
IfErr-fault text want (Err (Fault f)) is = fault-from_read want (tokens text) f is

-- the first fault is the only one
IfErr-only_fault : (text : List ℕ) (want : ℕ) (r : Result Forms FormFail) → IfErr r (FaultIs (read want [] [] (tokens text)))
    → IfErr r (λ fail. IfFormFault fail (λ f. (kind : FormKind) (at : ℕ) → IsFormFault text want kind at → (kind ≡ f.kind) × (at ≡ f.at)))
IfErr-only_fault text want (Ok f) is = tt
IfErr-only_fault text want (Err Memory) is = tt
IfErr-only_fault text want (Err (Fault f)) is =
    λ kind at other. IsFirstFault-unique want (tokens text) kind f.kind at f.at other (fault-from_read want (tokens text) f is)

pub returns-clause-spelled : goal.returns-clause-spelled
returns-clause-spelled c =
    let text = c.args.text.now in
    let want = c.args.want in
    IfOk-read text want c.read_lists.result c.read_lists.ensures.reads c.read_lists.ensures.rest
    (λ f. Spelled text want (trees_of f.list.items) f.rest)
    (is_spelled text want)

pub returns-clause-only : goal.returns-clause-only
returns-clause-only c =
    let text = c.args.text.now in
    let want = c.args.want in
    IfOk-read text want c.read_lists.result c.read_lists.ensures.reads c.read_lists.ensures.rest
    (λ f. (others : List Tree) (end : ℕ) → Spelled text want others end → (others ≡ trees_of f.list.items) × (end ≡ f.rest))
    (λ f reads rests. Spelled-unique text want (trees_of f.list.items) (tokens_at text f.rest) f.rest reads rests)

pub returns-clause-all : goal.returns-clause-all
returns-clause-all c =
    let text = c.args.text.now in
    let want = c.args.want in
    IfOk-read text want c.read_lists.result c.read_lists.ensures.reads c.read_lists.ensures.rest
    (λ f. f.rest ≡ length text → tokens text ≡ flat_map spelling (trees_of f.list.items))
    (λ f reads rests. tokens-all text want (trees_of f.list.items) f.rest reads)

pub returns-clause-lists : goal.returns-clause-lists
returns-clause-lists c =
    let text = c.args.text.now in
    let want = c.args.want in
    IfOk-read text want c.read_lists.result c.read_lists.ensures.reads c.read_lists.ensures.rest
    (λ f. All (λ form. IsTopList (tree_of form)) f.list.items)
    (λ f reads rests. All-top f.list.items (is_spelled text want f reads rests).sound)

pub returns-clause-printable : goal.returns-clause-printable
returns-clause-printable c =
    let text = c.args.text.now in
    let want = c.args.want in
    IfOk-read text want c.read_lists.result c.read_lists.ensures.reads c.read_lists.ensures.rest
    (λ f. All (λ form. IsPrintable (tree_of form)) f.list.items)
    (λ f reads rests. All-printable f.list.items (is_spelled text want f reads rests).sound)

pub returns-clause-of_atoms : goal.returns-clause-of_atoms
returns-clause-of_atoms c =
    let text = c.args.text.now in
    let want = c.args.want in
    IfOk-read text want c.read_lists.result c.read_lists.ensures.reads c.read_lists.ensures.rest
    (λ f. All (λ form. IsOfAtoms (tree_of form)) f.list.items)
    (λ f reads rests. All-of_atoms-spelled text want f.list.items f.rest (is_spelled text want f reads rests))

pub returns-clause-placed : goal.returns-clause-placed
returns-clause-placed c =
    let text = c.args.text.now in
    let want = c.args.want in
    IfOk-read text want c.read_lists.result c.read_lists.ensures.reads c.read_lists.ensures.rest
    (λ f. All (λ form. IsPlaced (length text) (tree_of form)) f.list.items)
    (λ f reads rests. All-placed text want f.list.items f.rest (is_spelled text want f reads rests))

pub returns-clause-fault : goal.returns-clause-fault
returns-clause-fault c = IfErr-fault c.args.text.now c.args.want c.read_lists.result c.read_lists.ensures.fault

pub returns-clause-only_fault : goal.returns-clause-only_fault
returns-clause-only_fault c = IfErr-only_fault c.args.text.now c.args.want c.read_lists.result c.read_lists.ensures.fault

pub returns-clause-sound : goal.returns-clause-sound
returns-clause-sound c =
    λ forms rest kind at spelled.
    no_fault-from_read c.args.want (tokens c.args.text.now) forms spelled.later (read-Spelled c.args.text.now c.args.want forms rest spelled) kind at
