-- The ones that are left decide.
use Rattle.std.proofs.Common.{◌≡◌, drop}
use Rattle.std.specs.Prelude.{nat_le}
use Rattle.hph_ast.specs.Nesting.{greatest}
use Rattle.hph_ast.specs.StatementNesting.{statement_nesting, else_if_nesting, case_nesting, member_nesting}
use Rattle.hph_nest.proofs.fits.+statement_fits.Given as goal

abbrev pub invariant-statements_fit-loop-statement : goal.invariant-statements_fit-loop-statement
invariant-statements_fit-loop-statement l = nat_le (greatest statement_nesting l.statements) l.limit ≡ nat_le (greatest statement_nesting (drop l.statement-index l.statements)) l.limit

abbrev pub invariant-else_ifs_fit-loop-branch : goal.invariant-else_ifs_fit-loop-branch
invariant-else_ifs_fit-loop-branch l = nat_le (greatest else_if_nesting l.branches) l.limit ≡ nat_le (greatest else_if_nesting (drop l.branch-index l.branches)) l.limit

abbrev pub invariant-cases_fit-loop-case : goal.invariant-cases_fit-loop-case
invariant-cases_fit-loop-case l = nat_le (greatest case_nesting l.cases) l.limit ≡ nat_le (greatest case_nesting (drop l.case-index l.cases)) l.limit

abbrev pub invariant-members_fit-loop-member : goal.invariant-members_fit-loop-member
invariant-members_fit-loop-member l = nat_le (greatest member_nesting l.members) l.limit ≡ nat_le (greatest member_nesting (drop l.member-index l.members)) l.limit
