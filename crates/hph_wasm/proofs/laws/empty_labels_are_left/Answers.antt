use Rattle.hph_wasm.proofs.EmptyLabels.{labels_left, frames_left, frames_end}
use Rattle.hph_wasm.proofs.laws.empty_labels_are_left.Goals as goal

pub returns : goal.returns
returns g c = record { labels = labels_left; frames = frames_left; frames_end = frames_end }
