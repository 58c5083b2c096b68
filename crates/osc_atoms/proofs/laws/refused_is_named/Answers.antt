-- What is refused has the fault, and what has it is refused.
use Rattle.std.proofs.Common.{◌+◌, length}
use Rattle.osc_atoms.specs.Atoms.{string, blob}
use Rattle.osc_atoms.specs.Standing.{StartsWithWord, StartsWithTag, StartsWithString, StartsWithBlob, NamesShort, NamesStringFault, NamesBlobFault}
use Rattle.osc_atoms.proofs.Outcomes.{refused_names}
use Rattle.osc_atoms.proofs.Numbers.{word_seen, tag_seen, word_fault_again, tag_fault_again}
use Rattle.osc_atoms.proofs.Strings.{string_seen, string_fault_again}
use Rattle.osc_atoms.proofs.Blobs.{blob_seen, blob_fault_again}
use Rattle.osc_atoms.proofs.laws.refused_is_named.Goals as goal

pub returns-clause-of_word : goal.returns-clause-of_word
returns-clause-of_word c =
    λ bytes at fault small.
    (refused_names (StartsWithWord bytes at) (λ number. at + 4) (NamesShort 4 bytes at) _ fault (word_seen bytes at small), word_fault_again bytes at fault)

pub returns-clause-of_tag : goal.returns-clause-of_tag
returns-clause-of_tag c =
    λ bytes at fault small.
    (refused_names (StartsWithTag bytes at) (λ number. at + 8) (NamesShort 8 bytes at) _ fault (tag_seen bytes at small), tag_fault_again bytes at fault)

pub returns-clause-of_string : goal.returns-clause-of_string
returns-clause-of_string c =
    λ bytes at fault whole. (
      refused_names (StartsWithString bytes at) (λ text. at + length (string text)) (NamesStringFault bytes at) _ fault
          (string_seen bytes at whole),
      string_fault_again bytes at fault,
    )

pub returns-clause-of_blob : goal.returns-clause-of_blob
returns-clause-of_blob c =
    λ bytes at fault small whole. (
      refused_names (StartsWithBlob bytes at) (λ content. at + length (blob content)) (NamesBlobFault bytes at) _ fault
          (blob_seen bytes at small whole),
      blob_fault_again bytes at fault whole,
    )
