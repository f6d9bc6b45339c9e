-- The trie in tables that are lent by one value. Assumes nothing.
use Rattle.trie.specs.declared.Tables.{Tables}
use Rattle.trie.specs.Trie.{CharTrie, trie_of}

abbrev pub trie_in : Tables → CharTrie
trie_in tables = trie_of tables.roots.now tables.slots.numbers.now
