use Rattle.std.proofs.Common.{refl}
use Rattle.hph_wmach.proofs.reduction.run_one.Goals as goal

pub returns-in-Unreachable : goal.returns-in-Unreachable
returns-in-Unreachable g c = λ m tells. rw c.in-Unreachable.is (c.trap.ensures m)

pub returns-in-Nop : goal.returns-in-Nop
returns-in-Nop g c = λ m tells. rw c.in-Nop.is (c.do_nothing.ensures m)

pub returns-in-Block : goal.returns-in-Block
returns-in-Block g c = λ m tells. rw c.in-Block.is (c.block.ensures m)

pub returns-in-Loop : goal.returns-in-Loop
returns-in-Loop g c = λ m tells. rw c.in-Loop.is (c.again.ensures m)

pub returns-in-If : goal.returns-in-If
returns-in-If g c = λ m tells. rw c.in-If.is (c.if_else.ensures m)

pub returns-in-Br : goal.returns-in-Br
returns-in-Br g c = λ m tells. rw c.in-Br.is (c.branch_now.ensures m)

pub returns-in-BrIf : goal.returns-in-BrIf
returns-in-BrIf g c = λ m tells. rw c.in-BrIf.is (c.branch_if.ensures m)

pub returns-in-BrTable : goal.returns-in-BrTable
returns-in-BrTable g c = λ m tells. rw c.in-BrTable.is (c.branch_table.ensures m)

pub returns-in-Return : goal.returns-in-Return
returns-in-Return g c = λ m tells. rw c.in-Return.is (c.return_now.ensures m)

pub returns-in-CallIndirect : goal.returns-in-CallIndirect
returns-in-CallIndirect g c = λ m tells. rw c.in-CallIndirect.is (c.call_indirect.ensures m tells)

pub returns-in-Drop : goal.returns-in-Drop
returns-in-Drop g c = λ m tells. rw c.in-Drop.is (c.drop_value.ensures m)

pub returns-in-Select : goal.returns-in-Select
returns-in-Select g c = λ m tells. rw c.in-Select.is (c.select.ensures m)

pub returns-in-LocalGet : goal.returns-in-LocalGet
returns-in-LocalGet g c = λ m tells. rw c.in-LocalGet.is (c.get_local.ensures m)

pub returns-in-LocalSet : goal.returns-in-LocalSet
returns-in-LocalSet g c = λ m tells. rw c.in-LocalSet.is (c.set_local.ensures m)

pub returns-in-LocalTee : goal.returns-in-LocalTee
returns-in-LocalTee g c = λ m tells. rw c.in-LocalTee.is (c.tee_local.ensures m)

pub returns-in-GlobalGet : goal.returns-in-GlobalGet
returns-in-GlobalGet g c = λ m tells. rw c.in-GlobalGet.is (c.get_global.ensures m)

pub returns-in-GlobalSet : goal.returns-in-GlobalSet
returns-in-GlobalSet g c = λ m tells. rw c.in-GlobalSet.is (c.set_global.ensures m)

pub returns-in-Load : goal.returns-in-Load
returns-in-Load g c = λ m tells. rw c.in-Load.is (c.load_whole.ensures m)

pub returns-in-LoadNarrow : goal.returns-in-LoadNarrow
returns-in-LoadNarrow g c = λ m tells. rw c.in-LoadNarrow.is (c.load_narrow.ensures m)

pub returns-in-Store : goal.returns-in-Store
returns-in-Store g c = λ m tells. rw c.in-Store.is (c.store_whole.ensures m)

pub returns-in-StoreNarrow : goal.returns-in-StoreNarrow
returns-in-StoreNarrow g c = λ m tells. rw c.in-StoreNarrow.is (c.store_narrow.ensures m)

pub returns-in-I32Const : goal.returns-in-I32Const
returns-in-I32Const g c = λ m tells. rw c.in-I32Const.is (c.const_i32.ensures m)

pub returns-in-I64Const : goal.returns-in-I64Const
returns-in-I64Const g c = λ m tells. rw c.in-I64Const.is (c.const_i64.ensures m)

pub returns-in-Eqz : goal.returns-in-Eqz
returns-in-Eqz g c = λ m tells. rw c.in-Eqz.is (c.is_zero.ensures m)

pub returns-in-Compare : goal.returns-in-Compare
returns-in-Compare g c = λ m tells. rw c.in-Compare.is (c.compare.ensures m)

pub returns-in-Unary : goal.returns-in-Unary
returns-in-Unary g c = λ m tells. rw c.in-Unary.is (c.operate.ensures m)

pub returns-in-Binary : goal.returns-in-Binary
returns-in-Binary g c = λ m tells. rw c.in-Binary.is (c.combine.ensures m)

pub returns-in-Wrap : goal.returns-in-Wrap
returns-in-Wrap g c = λ m tells. rw c.in-Wrap.is (c.wrap.ensures m)

pub returns-in-Extend : goal.returns-in-Extend
returns-in-Extend g c = λ m tells. rw c.in-Extend.is (c.extend.ensures m)

pub returns-in-Call : goal.returns-in-Call
returns-in-Call g c = λ m tells. rw c.in-Call.is (λ h. (refl, (refl, refl)))
