-- Reading a function type, part by part (Core Specification 1.0, 5.3.3).
use Rattle.std.proofs.Common.{ℕ, List}
use Rattle.std.specs.List.{AllByRecursion}
use Rattle.hph_wasm.specs.Leb128.{Unsigned}
use Rattle.hph_wasm.specs.Grammar.{Grammar, Byte, ◌⊳◌, Vector, ValueType, FunctionType}
use Rattle.hph_wasm.specs.OneWay.{OneForm, OneStop}
use Rattle.hph_wasm.specs.Unsupported.{Any, Nowhere, IsAnything, Either, Behind, StopsValueType, StopsValueTypes, StopsFunctionType}
use Rattle.hph_wasm.specs.declared.types.ValType.{ValType}
use Rattle.hph_wread.specs.declared.fault.Fault.{Fault}
use Rattle.hph_wread.specs.Reading.{Took, Fails}
use Rattle.hph_wread.proofs.Combinators.{fails_map, fails_first, fails_second, behind_first, behind_second, byte_end, took_any}
use Rattle.hph_wread.proofs.Vectors.{vector_end, vector_apart}

abbrev Types : Grammar
Types = Any (Vector ValueType)

-- a function type is its byte and two vectors
two_vectors : (front : List ℕ) → Any FunctionType front → (Byte 0x60 ⊳ Types ⊳ Types) front
two_vectors front p =
    let ty = p.1 in
    let types = ty.second in
    record {
      front = ty.front;
      rest = ty.rest;
      split = ty.split;
      first = ty.first;
      second = record {
        front = types.front;
        rest = types.rest;
        split = types.split;
        first = (p.0.params, types.first, tt);
        second = (p.0.results, types.second, tt);
      };
    }

as_function_type : {bytes : List ℕ} → (e : Fault) → Fails (Byte 0x60 ⊳ Types ⊳ Types) StopsFunctionType bytes e → Fails (Any FunctionType) StopsFunctionType bytes e
as_function_type e f = fails_map two_vectors (λ place feature t. t) (λ place feature t. t) e f

pub function_type_byte : {bytes : List ℕ} → (e : Fault) → Fails (Byte 0x60) Nowhere bytes e → Fails (Any FunctionType) StopsFunctionType bytes e
function_type_byte e f = as_function_type e (behind_first (Types ⊳ Types) (Either StopsValueTypes (Behind Types StopsValueTypes)) e f)

pub function_type_params : {bytes mid : List ℕ} → Took (Byte 0x60) bytes mid → (e : Fault) → Fails Types StopsValueTypes mid e → Fails (Any FunctionType) StopsFunctionType bytes e
function_type_params p e f = as_function_type e (behind_second (byte_end 0x60) p e (fails_first Types Types StopsValueTypes (λ front q. q) e f))

pub function_type_results : {bytes mid rest : List ℕ} → OneForm (Unsigned 32) → OneForm ValueType → OneStop ValueType IsAnything StopsValueType → Took (Byte 0x60) bytes mid →
    (params : List ValType) → AllByRecursion IsAnything params → Took (Vector ValueType params) mid rest → (e : Fault) → Fails Types StopsValueTypes rest e → Fails (Any FunctionType) StopsFunctionType bytes e
function_type_results number o stops p params all q e f = as_function_type e (behind_second (byte_end 0x60) p e
    (fails_second StopsValueTypes (vector_end number o) (λ front any. any) (vector_apart number o stops params all q) (took_any (Vector ValueType) params q) e f))
