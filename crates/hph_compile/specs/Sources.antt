-- Why a source file has no module.
use Rattle.std.specs.Prelude.{◌≡◌, ◌^◌, ℕ, List, Some, Err}
use Rattle.hph_ast.specs.declared.program.FileTree.{FileTree}
use Rattle.hph_ast.specs.Faults.{FirstFault, lex, construct, too_many_brackets, syntax_error}
use Rattle.hph_file.specs.Answers.{IsRead}
use Rattle.hph_file.specs.declared.fault.FileFault.{FileFault}
use Rattle.hph_file.specs.declared.fault.FileFault.TheVariants as file
use Rattle.hph_text.specs.Texts.{file_texts}
use Rattle.hph_text.specs.declared.fault.TextsFault.{TextsFault}
use Rattle.hph_text.specs.declared.fault.TextsFault.TheVariants as texts
use Rattle.hph_compile.specs.declared.fault.SourceFault.{SourceFault}
use Rattle.hph_compile.specs.declared.fault.SourceFault.TheVariants as fault

-- the most bytes that a source file may have
abbrev pub file_limit : ℕ
file_limit = 2 ^ 20

-- The file has no fault, and its first node that can't be compiled yet begins at the offset.
abbrev pub IsUnlowered : List ℕ → ℕ → Type 0
IsUnlowered source offset = (tree : FileTree) × IsRead source tree × (file_texts tree ≡ Err offset)

-- the first fault of a source, or a node that can't be compiled yet; unless memory ran out
abbrev pub IsFaultOf : List ℕ → SourceFault → Type 0
IsFaultOf source (fault.Lex kind offset) = FirstFault source (Some (lex kind offset))
IsFaultOf source (fault.Construct kind offset) = FirstFault source (Some (construct kind offset))
IsFaultOf source (fault.TooDeep offset) = FirstFault source (Some (too_many_brackets offset))
IsFaultOf source (fault.Syntax offset) = FirstFault source (Some (syntax_error offset))
IsFaultOf source (fault.Unlowered offset) = IsUnlowered source offset
IsFaultOf source fault.NoMemory = Unit {0}

abbrev pub fault_of_file : FileFault → SourceFault
fault_of_file (file.Lex kind offset) = fault.Lex kind offset
fault_of_file (file.Construct kind offset) = fault.Construct kind offset
fault_of_file (file.TooDeep offset) = fault.TooDeep offset
fault_of_file (file.Syntax offset) = fault.Syntax offset
fault_of_file file.NoMemory = fault.NoMemory

abbrev pub fault_of_texts : TextsFault → SourceFault
fault_of_texts (texts.Unlowered offset) = fault.Unlowered offset
fault_of_texts texts.NoMemory = fault.NoMemory
