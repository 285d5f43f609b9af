mod Spellings
