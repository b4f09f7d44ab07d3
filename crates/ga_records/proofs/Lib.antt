mod RecordLemmas
