-- Trees and sinks that fail by a script: this project's own.
use Rattle.std.specs.Prelude.{◌≡◌, ℕ, ◌-◌, List, [], ◌∷◌, ◌++◌, length, take, refl}
use Rattle.std.specs.Coded.{Coded, code_by, coded×, coded_list, coded_ℕ}
use Rattle.hph_src.specs.Faults.{next_count}
use Rattle.hph_src.specs.Files.{Files, coded_files}
use Rattle.hph_src.specs.declared.tree.ReadAnswer.{ReadAnswer}
use Rattle.hph_src.specs.declared.tree.ReadAnswer.TheVariants.{Failed}
use Rattle.hph_src.specs.declared.sink.PutAnswer.{PutAnswer}
use Rattle.hph_src.specs.declared.sink.PutAnswer.TheVariants.{All, Failed as PutFailed, NoMemory}

-- a tree, the numbers of its calls that fail, and how many calls and faults there were
pub record ReadScript : Type 0 where
  pub files : Files
  pub failing : List ℕ
  pub calls : ℕ
  pub faults : ℕ

-- how a tree's script is stored as data
abbrev pub coded_read_script : Coded ReadScript
coded_read_script =
    code_by (Files × (List ℕ × (ℕ × ℕ))) (coded× coded_files (coded× (coded_list coded_ℕ) (coded× coded_ℕ coded_ℕ)))
    (λ s. (s.files, (s.failing, (s.calls, s.faults))))
    (λ p. record { files = p.0; failing = p.1.0; calls = p.1.1.0; faults = p.1.1.1 })
    (λ _. refl)

-- the faults of a tree after a read with this answer
abbrev pub faults_after_read : ℕ → ReadAnswer → ℕ
faults_after_read faults Failed = next_count faults
faults_after_read faults _ = faults

-- a tree after a read with this answer: one call more, and a fault more where it failed
abbrev pub after_read : ReadScript → ReadAnswer → ReadScript
after_read script answer =
    record script { calls = next_count script.calls; faults = faults_after_read script.faults answer }

-- what a sink holds, how many bytes it takes in all, and how many faults there were
pub record PutScript : Type 0 where
  pub content : List ℕ
  pub limit : ℕ
  pub faults : ℕ

-- a sink after a put with this answer: where it failed, it has taken what fits
abbrev pub after_put : PutScript → List ℕ → PutAnswer → PutScript
after_put script piece All = record script { content = script.content ++ piece }
after_put script piece PutFailed =
    record script {
      content = script.content ++ take (script.limit - length script.content) piece;
      faults = next_count script.faults;
    }
after_put script piece NoMemory = script

-- a sink of three bytes in all that holds one takes two of the next three
takes_what_fits : after_put (record { content = 7 ∷ []; limit = 3; faults = 0 }) (1 ∷ 2 ∷ 3 ∷ []) PutFailed
    ≡ record { content = 7 ∷ 1 ∷ 2 ∷ []; limit = 3; faults = 1 }
takes_what_fits = refl
