-- What is read stands there.
use Rattle.std.proofs.Common.{◌+◌, length}
use Rattle.osc_atoms.specs.Atoms.{string, blob}
use Rattle.osc_atoms.specs.Standing.{StartsWithWord, StartsWithTag, StartsWithString, StartsWithBlob, NamesShort, NamesStringFault, NamesBlobFault}
use Rattle.osc_atoms.proofs.Outcomes.{given_stands}
use Rattle.osc_atoms.proofs.Numbers.{word_seen, tag_seen}
use Rattle.osc_atoms.proofs.Strings.{string_seen}
use Rattle.osc_atoms.proofs.Blobs.{blob_seen}
use Rattle.osc_atoms.proofs.laws.read_was_encoded.Goals as goal

pub returns-clause-of_word : goal.returns-clause-of_word
returns-clause-of_word c =
    λ bytes at read small is. given_stands (StartsWithWord bytes at) (λ number. at + 4) (NamesShort 4 bytes at) _ read (word_seen bytes at small) is

pub returns-clause-of_tag : goal.returns-clause-of_tag
returns-clause-of_tag c =
    λ bytes at read small is. given_stands (StartsWithTag bytes at) (λ number. at + 8) (NamesShort 8 bytes at) _ read (tag_seen bytes at small) is

pub returns-clause-of_string : goal.returns-clause-of_string
returns-clause-of_string c =
    λ bytes at read whole is. given_stands (StartsWithString bytes at) (λ text. at + length (string text)) (NamesStringFault bytes at) _ read
    (string_seen bytes at whole) is

pub returns-clause-of_blob : goal.returns-clause-of_blob
returns-clause-of_blob c =
    λ bytes at read small whole is. given_stands (StartsWithBlob bytes at) (λ content. at + length (blob content)) (NamesBlobFault bytes at) _ read
    (blob_seen bytes at small whole) is
