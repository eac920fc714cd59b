-- Code as the definitions have it.
use Rattle.std.specs.Prelude.{List, map}
use Rattle.rc_ast.specs.Expressions.{int_seen, domain_seen}
use Rattle.rc_ast.specs.Effects.{effect_seen}
use Rattle.rc_code.specs.Instruction.{simple, if_true, so_often, one_by_one, do_all, begin_stage, offer, end_body}
use Rattle.rc_code.specs.Instruction.{Block as PureBlock, Instruction as PureInstruction, SitePlace as PurePlace, Code as PureCode}
use Rattle.rc_code.specs.declared.code.Block.{Block}
use Rattle.rc_code.specs.declared.code.Instruction.{Instruction}
use Rattle.rc_code.specs.declared.code.Instruction.TheVariants.{Simple, If, Repeat, Each, Do, Stage, Choice, End}
use Rattle.rc_code.specs.declared.code.SitePlace.{SitePlace}
use Rattle.rc_code.specs.declared.code.Code.{Code}

abbrev pub block_seen : Block → PureBlock
block_seen block = record { before = block.before; inside = block.inside }

abbrev pub instruction_seen : Instruction → PureInstruction
instruction_seen (Simple e) = simple (effect_seen e)
instruction_seen (If test inside) = if_true test inside
instruction_seen (Repeat count inside) = so_often (int_seen count) inside
instruction_seen (Each domain bound inside) = one_by_one (domain_seen domain) bound inside
instruction_seen (Do inside) = do_all inside
instruction_seen (Stage number class end inside) = begin_stage number class end inside
instruction_seen (Choice site alts blocks inside) = offer site alts.items (map block_seen blocks.items) inside
instruction_seen End = end_body

abbrev pub list_seen : List Instruction → List PureInstruction
list_seen code = map instruction_seen code

abbrev pub place_seen : SitePlace → PurePlace
place_seen at = record { outer = at.outer.items; place = at.place }

abbrev pub code_seen : Code → PureCode
code_seen code = record { list = list_seen code.list.items; sites = map place_seen code.sites.items }
