-- Classes of bytes: PHP manual, Integers and Strings.
use Rattle.std.specs.Prelude.{ℕ, Bool}
use Rattle.hph_ast.specs.Numbers.{is_run_byte, is_hex_run_byte}
use Rattle.hph_ast.specs.Strings.{is_octal, is_hex}
use Rattle.hph_scan.specs.declared.byte.ByteClass.{ByteClass}
use Rattle.hph_scan.specs.declared.byte.ByteClass.TheVariants.{OctalDigit, HexadecimalDigit, Run, HexadecimalRun}

-- whether a byte is of a class
abbrev pub contains : ByteClass → ℕ → Bool
contains OctalDigit byte = is_octal byte
contains HexadecimalDigit byte = is_hex byte
contains Run byte = is_run_byte byte
contains HexadecimalRun byte = is_hex_run_byte byte
