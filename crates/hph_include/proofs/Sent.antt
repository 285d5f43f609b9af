-- Files may cross threads: what their parts own names no thread.
use denote.RattleType.{RattleType}
use denote.Builtin as Builtin
use denote.Enum.Declared as enum
use denote.Struct.Declared as struct
use denote.Param.Send.{IsSend, sendable, enum_send, struct_send, recorded_send, plain_send}
use Rattle.std.proofs.Crossing as Std
use Rattle.std.proofs.alloc.Global.TheSendSync as Global
use Rattle.std.proofs.boxed.Box.TheSendSync as Box
use Rattle.std.proofs.rt.Memory.TheSendSync as Memory
use Rattle.std.proofs.vec.Vec.TheSendSync as Vec
use Rattle.std.proofs.option.Option.TheSendSync as Option
use Rattle.sqlite_items.proofs.boxed.Boxed.TheSendSync as Boxed
use Rattle.sqlite_items.proofs.items.Items.TheSendSync as Items
use Rattle.hph_ast.proofs.class.Access.TheSendSync as Access
use Rattle.hph_ast.proofs.class.Modifiers.TheSendSync as Modifiers
use Rattle.hph_ast.proofs.class.Member.TheLaws.TheKnot as Statements
use Rattle.hph_ast.proofs.expr.ArrayForm.TheSendSync as ArrayForm
use Rattle.hph_ast.proofs.expr.ClassReference.TheLaws.TheKnot as Expressions
use Rattle.hph_ast.proofs.expr.Update.TheSendSync as Update
use Rattle.hph_ast.proofs.function.DeclaredType.TheSendSync as DeclaredType
use Rattle.hph_ast.proofs.function.TypeName.TheSendSync as TypeName
use Rattle.hph_ast.proofs.operator.Assignment.TheSendSync as Assignment
use Rattle.hph_ast.proofs.operator.Binary.TheSendSync as Binary
use Rattle.hph_ast.proofs.operator.Cast.TheSendSync as Cast
use Rattle.hph_ast.proofs.operator.IncludeForm.TheSendSync as IncludeForm
use Rattle.hph_ast.proofs.operator.Prefix.TheSendSync as Prefix
use Rattle.hph_ast.proofs.token.At.TheSendSync as At
use Rattle.hph_ast.proofs.token.Identifier.TheSendSync as Identifier
use Rattle.sqlite_items.specs.contracts.boxed.Boxed as BoxedType
use Rattle.std.specs.contracts.option.Option as OptionType
use Rattle.hph_ast.specs.contracts.expr.Expr
use Rattle.hph_ast.specs.contracts.expr.Item
use Rattle.hph_ast.specs.contracts.stmt.ForeachTarget
use Rattle.hph_ast.specs.contracts.stmt.Statement
use Rattle.hph_ast.specs.contracts.stmt.StaticVariable
use Rattle.hph_ast.specs.contracts.class.ConstantItem
use Rattle.hph_ast.specs.contracts.class.PropertyItem
use Rattle.hph_ast.specs.contracts.function.Param
use Rattle.hph_ast.specs.contracts.program.FileTree
use Rattle.hph_ast.specs.contracts.program.File
use Rattle.hph_ast.proofs.token.Token.TheSendSync as Token
use Rattle.std.specs.contracts.result.Result
use Rattle.std.specs.contracts.vec.Vec as VecType
use Rattle.std.specs.contracts.alloc.Global as GlobalType
use Rattle.std.specs.contracts.impls.GlobalAllocator.TheImpl as GlobalImpl
use Rattle.std.below.std_heap.proofs.GlobalAllocator.TheSendSync as Frees
use Rattle.std.proofs.result.Result.TheSendSync as Outcome
use Rattle.std.proofs.string.String.TheSendSync as Text
use Rattle.hph_include.specs.contracts.fault.FrontFault
use Rattle.hph_include.proofs.fault.FrontFault.TheSendSync as Fault
use Rattle.hph_ast.specs.contracts.token.Identifier as IdentifierType
use Rattle.hph_ast.specs.contracts.function.DeclaredType as DeclaredTypeType

pub expr_sent : IsSend Expr.the_row
expr_sent = search (Expressions.crosses, At.the_field_send, ArrayForm.the_field_send, Update.the_field_send, Prefix.the_field_send, Binary.the_field_send, Binary.the_send, Assignment.the_field_send, Boxed.the_send, Items.the_send, Std.crosses, sendable) depth 60 fits 20000

pub item_sent : IsSend Item.the_row
item_sent = search (Expressions.crosses, At.the_field_send, ArrayForm.the_field_send, Update.the_field_send, Prefix.the_field_send, Binary.the_field_send, Binary.the_send, Assignment.the_field_send, Boxed.the_send, Items.the_send, Std.crosses, sendable) depth 60 fits 20000

pub target_field : IsSend (ForeachTarget.the_field).row
target_field = enum_send (enum.shape ForeachTarget.the_type) (
  (Identifier.the_field_send, tt),
  (
    (Boxed.the_send Expr.the_row expr_sent, (plain_send _ _ _ _ _, tt)),
    ((plain_send _ _ _ _ _, (Items.the_send Item.the_row item_sent, tt)), tt),
  ),
)

boxed_expr : IsSend (BoxedType.the_row Expr.the_row)
boxed_expr = Boxed.the_send Expr.the_row expr_sent

maybe_expr : IsSend (OptionType.the_field (BoxedType.the_row Expr.the_row)).row
maybe_expr = Option.the_field_send _ boxed_expr

constant_sent : IsSend ConstantItem.the_row
constant_sent = recorded_send (ConstantItem.the_field).row _ _ (ConstantItem.the_type).to_one
    (struct_send (struct.shape ConstantItem.the_type) (Identifier.the_field_send, (boxed_expr, tt)))

property_sent : IsSend PropertyItem.the_row
property_sent = recorded_send (PropertyItem.the_field).row _ _ (PropertyItem.the_type).to_one
    (struct_send (struct.shape PropertyItem.the_type) (Identifier.the_field_send, (maybe_expr, tt)))

variable_sent : IsSend StaticVariable.the_row
variable_sent = recorded_send (StaticVariable.the_field).row _ _ (StaticVariable.the_type).to_one
    (struct_send (struct.shape StaticVariable.the_type) (Identifier.the_field_send, (maybe_expr, tt)))

param_sent : IsSend Param.the_row
param_sent = recorded_send (Param.the_field).row _ _ (Param.the_type).to_one
    (struct_send (struct.shape Param.the_type)
    (At.the_field_send, (Option.the_field_send _ DeclaredType.the_send, (plain_send _ _ _ _ _, (Identifier.the_field_send, (maybe_expr, tt))))))

pub statement_sent : IsSend Statement.the_row
statement_sent = recorded_send (Statement.the_field).row _ _ (Statement.the_type).to_one
    (Statements.send-Statement At.the_field_send Modifiers.the_field_send (Items.the_send _ constant_sent) (Option.the_field_send _ DeclaredType.the_send)
    (Items.the_send _ property_sent) Boxed.the_send (Items.the_send Builtin.u8 (plain_send _ _ _ _ _)) Items.the_send boxed_expr (λ h s. Option.the_send _ (Boxed.the_send h s))
    (Items.the_send _ expr_sent) (Option.the_field_send _ Identifier.the_send) target_field (Option.the_field_send Builtin.u64 (plain_send _ _ _ _ _)) maybe_expr
    (Items.the_send _ Identifier.the_send) (Items.the_send _ variable_sent) Identifier.the_field_send (Items.the_send _ param_sent))

tree_field : IsSend (FileTree.the_field).row
tree_field = struct_send (struct.shape FileTree.the_type) (At.the_field_send, (Items.the_send _ statement_sent, tt))

file_sent : IsSend File.the_row
file_sent = recorded_send (File.the_field).row _ _ (File.the_type).to_one
    (struct_send (struct.shape File.the_type)
    (Text.the_field_send GlobalType.the_row GlobalImpl.ghosts Global.the_send Frees.the_frees, (Items.the_send Builtin.u8 (plain_send _ _ _ _ _), (Items.the_send _ Token.the_send, (tree_field, tt)))))

pub front_sent : IsSend (Result.the_row File.the_row FrontFault.the_row)
front_sent = Outcome.the_send File.the_row FrontFault.the_row file_sent Fault.the_send

pub fronts_sent : IsSend (VecType.the_row (Result.the_row File.the_row FrontFault.the_row) GlobalType.the_row GlobalImpl.ghosts)
fronts_sent = Vec.the_send (Result.the_row File.the_row FrontFault.the_row) GlobalType.the_row GlobalImpl.ghosts front_sent Global.the_send Frees.the_frees
