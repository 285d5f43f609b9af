-- What an answer says still holds once its line was written.
use Rattle.std.proofs.Common.{◌≡◌, ◌⊎◌, inl, inr, ℕ, List, [], length, take, refl, sym, ap, subst, ◌∙◌, append-nil, Option, Some, None}
use Rattle.std.proofs.Math.Seq.{take-length}
use Rattle.std.specs.Prelude.{IfSome}
use Rattle.hph_src.specs.Files.{Files, file_at}
use Rattle.hph_src.specs.Sink.{grown_by}
use Rattle.hph_drive.specs.declared.status.Status.{Status}
use Rattle.hph_drive.specs.declared.status.Status.TheVariants.{Built, Usage, Refused, Unlowered, ReadFault, WriteFault, NoMemory}
use Rattle.hph_drive.specs.Lines.{line_of}
use Rattle.hph_drive.specs.Answers.{SaysOfFile, LeavesAlone, Reports}

-- the whole of a piece is a prefix of it
whole_is_prefix : (old : Option (List ℕ)) (piece : List ℕ) → grown_by old piece ≡ grown_by old (take (length piece) piece)
whole_is_prefix old piece = ap (grown_by old) (sym (take-length piece))

-- nothing is a prefix of every line
pub grown_by_nothing : (old : Option (List ℕ)) → old ≡ grown_by old []
grown_by_nothing None = refl
grown_by_nothing (Some bytes) = ap Some (sym (append-nil bytes))

-- a line that was written whole is reported
pub whole_line_reports : (old new : Option (List ℕ)) (failed : Type 0) (status : Status) → new ≡ grown_by old (line_of status) → Reports old new failed status
whole_line_reports old new failed Built grown = inl grown
whole_line_reports old new failed Usage grown = inl grown
whole_line_reports old new failed (Refused refusal) grown = inl grown
whole_line_reports old new failed (Unlowered spot) grown = inl grown
whole_line_reports old new failed ReadFault grown = inl grown
whole_line_reports old new failed WriteFault grown = inl grown
whole_line_reports old new failed NoMemory grown = (NoMemory, (length (line_of NoMemory), grown ∙ whole_is_prefix old (line_of NoMemory)))

-- where no memory is found for the line, the answer is want of memory: what it says holds after any answer
no_memory_says : (file old new : Option (List ℕ)) (status : Status) → SaysOfFile file old new status → LeavesAlone old new status → SaysOfFile file old new NoMemory
no_memory_says file old new Built says alone = let module_bytes = says.2.0 in inr (says.0, says.1, (module_bytes, says.2.1, (length module_bytes, says.2.2 ∙ whole_is_prefix old module_bytes)))
no_memory_says file old new Usage says alone = inl alone
no_memory_says file old new (Refused refusal) says alone = inl alone
no_memory_says file old new (Unlowered spot) says alone = inl alone
no_memory_says file old new ReadFault says alone = inl alone
no_memory_says file old new WriteFault says alone = inr says
no_memory_says file old new NoMemory says alone = says

says_still : (file old new : Option (List ℕ)) (status result : Status) → SaysOfFile file old new status → LeavesAlone old new status → (result ≡ status) ⊎ (result ≡ NoMemory) → SaysOfFile file old new result
says_still file old new status result says alone (inl same) = subst (SaysOfFile file old new) (sym same) says
says_still file old new status result says alone (inr lost) = subst (SaysOfFile file old new) (sym lost) (no_memory_says file old new status says alone)

-- the same where there may be no path, and the files may not be told
pub says_after_line : (main : Option (List ℕ)) (files : Option Files) (old new : Option (List ℕ)) (status result : Status)
    → IfSome main (λ path. IfSome files (λ files. SaysOfFile (file_at files path) old new status)) → LeavesAlone old new status → (result ≡ status) ⊎ (result ≡ NoMemory)
    → IfSome main (λ path. IfSome files (λ files. SaysOfFile (file_at files path) old new result))
says_after_line None files old new status result says alone same = tt
says_after_line (Some path) None old new status result says alone same = tt
says_after_line (Some path) (Some files) old new status result says alone same = says_still (file_at files path) old new status result says alone same
